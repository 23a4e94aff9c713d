-- Parts counted one after another: what is left to count, and where
use mathlib.Core.Path.{◌≡◌, sym, ap, subst, ◌∙◌}
use mathlib.Core.List.{List, ◌∷◌}
use Prim.Native.Nat.{ℕ, ◌<◌, ◌≤◌}
use native.Mathlib.Omega.{arith}
use lib.ListN.{length, drop}
use borrow.Author.Tests.{eq-eqb, ne_eqb}
use Rattle.std.specs.Prelude.{Result, Ok, Err}
use Rattle.jsontext.specs.Reading.{Read, got, mapped, blanks}
use Rattle.jsonread.proofs.Spelling.{came}
use Rattle.jsontrace.specs.Count.{Count, ◌⊞◌}
use Rattle.jsonruns.specs.Good.{Good, Signed, BeginTold, PartTold}
use Rattle.jsonruns.specs.Run.{Run, Listed}
use Rattle.jsonruns.proofs.Runs.{same-got, same_rest, Turn, turn}
use Rattle.jsonruns.proofs.Signs.{ahead, ahead-less}
use Rattle.jsoncount.specs.declared.tallies.Tally.{Tally}
use Rattle.jsoncount.specs.Tally.{Adds, sizes, CountedTo}
use Rattle.jsoncount.proofs.Sums.{adds_then, adds_none, adds-as, sum-none}

-- ---- the loop

module _ {A : Type 0} (close : ℕ) (Part : List ℕ → A → List ℕ → Type 0) (size : A → Count) where
  -- what is counted from here on is counted of the whole
  pub record Looping (line : List ℕ) (at : ℕ) (t : Tally) (m : Read (List A)) (tally : Tally) (i : ℕ) : Type 0 where
    pub what : List A
    pub rest : List ℕ
    pub is : m ≡ got what rest
    pub from : at ≤ i
    pub within : i ≤ length line
    pub left : List A
    pub run : Run close Part (drop i line) left rest
    pub adds : (f : Tally) → Adds tally (sizes size left) f → Adds t (sizes size what) f

  -- one part counted, up to e
  pub record PartTo (line : List ℕ) (i : ℕ) (tally : Tally) (e : ℕ) (after : Tally) : Type 0 where
    pub from : i ≤ e
    pub within : e ≤ length line
    pub is : (a : A) (t : List ℕ) → Part (drop i line) a t → t ≡ drop e line
    pub adds : (a : A) (t : List ℕ) → Part (drop i line) a t → Adds tally (size a) after

  -- a part is left, or all is counted where the bracket closed
  pub record Turning (line : List ℕ) (at : ℕ) (t : Tally) (m : Read (List A)) (tally : Tally) (part : Result ℕ ℕ) : Type 0 where
    pub next : (i : ℕ) → part ≡ Ok i → Looping line at t m tally i
    pub closed : (k : ℕ) → part ≡ Err k → CountedTo line at t tally k m (sizes size)

  module _ {line : List ℕ} {at : ℕ} {m : Read (List A)} (law : (what : List A) (rest : List ℕ) → m ≡ got what rest → Listed close Part (drop at line) what rest) (g : Good line at m) where
    listed : Listed close Part (drop at line) g.what g.rest
    listed = law g.what g.rest g.is

    pub loop_signed : Signed line at
    loop_signed = record { within = g.within; sign = listed.first; rest = listed.others; is = listed.byte }

    module _ {x : Result ℕ ℕ} (b : BeginTold line at close x) where
      loop_empty : {t : Tally} {k : ℕ} → x ≡ Err k → CountedTo line at t t k m (sizes size)
      unfolding sizes
      loop_empty {t} {k} z =
          let h = b.closed k z in
          let c = h.is in
          record {
            from = omega (arith, h.from);
            within = h.within;
            is =
                λ what rest f.
                let l = law what rest f in
                let y = sym l.byte ∙ c in
                l.left (eq-eqb l.first close cc) ∙ cc;
            adds =
                λ what rest f.
                let l = law what rest f in
                let y = sym l.byte ∙ c in
                rw (l.none (eq-eqb l.first close cc)) (adds_none t);
          }

      loop_start : {t : Tally} {i : ℕ} → x ≡ Ok i → Looping line at t m t i
      loop_start {t} {i} z =
          let k = b.next i z in
          record {
            what = g.what;
            rest = g.rest;
            is = g.is;
            from = k.from;
            within = k.within;
            left = g.what;
            run = subst (λ (s : List ℕ). Run close Part s g.what g.rest) (sym k.is) (listed.run (ne_eqb listed.first close (k.other listed.first listed.others listed.byte)));
            adds = λ f h. h;
          }

      pub loop_begun : {t : Tally} → Turning line at t m t x
      loop_begun = record { next = λ i z. loop_start z; closed = λ k z. loop_empty z }

  module _ {line : List ℕ} {at i e : ℕ} {t tally after : Tally} {m : Read (List A)} (g : Looping line at t m tally i) (p : PartTo line i tally e after) where
    now : Turn close Part (drop i line) g.left g.rest
    now = turn close Part g.run

    sign-here : blanks (drop e line) ≡ now.sign ∷ now.others
    sign-here = ap blanks (sym (p.is now.what now.after now.part)) ∙ now.byte

    pub part-signed : Signed line e
    part-signed = record { within = p.within; sign = now.sign; rest = now.others; is = sign-here }

    module _ {x : Result ℕ ℕ} (b : PartTold line e close x) where
      loop_closed : {k : ℕ} → x ≡ Err k → CountedTo line at t after k m (sizes size)
      unfolding sizes
      loop_closed {k} y =
          let h = b.closed k y in
          let same = sym sign-here ∙ h.is in
          let z : now.sign ≡ close = cc in
          let added : Adds tally (sizes size g.left) after = rw (now.alone z) (rw (sum-none (size now.what)) (p.adds now.what now.after now.part)) in
          record {
            from = omega (arith, g.from, p.from, h.from);
            within = h.within;
            is = λ what rest f. same_rest f g.is ∙ now.left z ∙ cc (same);
            adds = λ what rest f. subst (λ (w : List A). Adds t (sizes size w) after) (same-got g.is f) (g.adds after added);
          }

      loop_next : {j : ℕ} → x ≡ Ok j → Looping line at t m after j
      unfolding sizes
      loop_next {j} y =
          let c = b.next j y in
          let o = now.next (c.other now.sign now.others sign-here) in
          record {
            what = g.what;
            rest = g.rest;
            is = g.is;
            from = omega (arith, g.from, p.from, c.from);
            within = c.within;
            left = o.parts;
            run = subst (λ (s : List ℕ). Run close Part s o.parts g.rest) (sym (c.is now.sign now.others sign-here)) o.run;
            adds = λ f h. g.adds f (rw o.all-is (adds_then (p.adds now.what now.after now.part) h));
          }

      pub loop_again : Turning line at t m after x
      loop_again = record { next = λ j y. loop_next y; closed = λ k y. loop_closed y }

      pub loop_less : {y : Result ℕ ℕ} → y ≡ Ok i → ahead line x < ahead line y
      loop_less z = ahead-less line z b p.from

  -- the bracket closes
  pub loop_told : {line : List ℕ} {at k : ℕ} {t tally : Tally} {m : Read (List A)} {x : Result ℕ ℕ} → Turning line at t m tally x → x ≡ Err k → CountedTo line at t tally k m (sizes size)
  loop_told {k = k} g z = g.closed k z

-- the same counts, said otherwise
pub counted-as : {A : Type 0} {line : List ℕ} {at e : ℕ} {t u : Tally} {m : Read A} {f h : A → Count} → ((a : A) → f a ≡ h a) → CountedTo line at t u e m f → CountedTo line at t u e m h
counted-as e p = record { from = p.from; within = p.within; is = p.is; adds = λ what rest q. adds-as (e what) (p.adds what rest q) }

-- more is counted at the end
pub counted-more : {A : Type 0} {line : List ℕ} {at e : ℕ} {t u v : Tally} {m : Read A} {f : A → Count} {d : Count} → CountedTo line at t u e m f → Adds u d v → CountedTo line at t v e m (λ a. f a ⊞ d)
counted-more p q = record { from = p.from; within = p.within; is = p.is; adds = λ what rest h. adds_then (p.adds what rest h) q }

-- ---- what was read is made into something else

module _ {A B : Type 0} (f : A → B) {line : List ℕ} {at i : ℕ} {n : Read B} {m : Read A} (e : n ≡ mapped f m) where
  pub good-from : i ≤ length line → Good line at n → Good line i m
  good-from h g = let c = came f m (sym e ∙ g.is) in record { what = c.what; rest = g.rest; within = h; is = c.is }

  pub counted-from : {t u : Tally} {k : ℕ} {size : A → Count} {as-made : B → Count} → at ≤ i → ((a : A) → size a ≡ as-made (f a)) → CountedTo line i t u k m size → CountedTo line at t u k n as-made
  counted-from {t} {u} {k} {size} {as-made} h z p = record {
    from = omega (arith, p.from);
    within = p.within;
    is = λ what rest q. p.is _ rest (came f m (sym e ∙ q)).is;
    adds = λ what rest q. let c = came f m (sym e ∙ q) in adds-as (z c.what ∙ ap as-made (sym c.makes)) (p.adds c.what rest c.is);
  }
