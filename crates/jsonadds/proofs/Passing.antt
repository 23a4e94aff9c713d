-- Parts passed over one after another, and counted
use mathlib.Core.Path.{◌≡◌, sym, ap, subst, ◌∙◌}
use mathlib.Core.Bool.{true}
use mathlib.Core.List.{List, [], ◌∷◌}
use Prim.Native.Nat.{ℕ, ◌+◌, ◌-◌, ◌<◌, ◌≤◌}
use native.Mathlib.Omega.{arith}
use lib.ListN.{length, drop}
use borrow.Author.Tests.{eq-eqb, ne_eqb}
use Rattle.std.specs.Prelude.{Result, Ok, Err}
use Rattle.jsontext.specs.Reading.{Read, got, blanks}
use Rattle.jsontext.specs.Strings.{string}
use Rattle.jsontext.specs.Values.{J, array, value}
use Rattle.jsonruns.specs.Good.{Good, Ends, Signed, Past, BeginTold, PartTold}
use Rattle.jsonruns.proofs.Signs.{ahead, ahead-less}
use Rattle.jsonruns.specs.Run.{Run, Listed, Item, Member}
use Rattle.jsonruns.proofs.Runs.{same-got, same_rest, Turn, turn, array-listed}
use Rattle.jsonadds.specs.Place.{CountTold, MemberGood, MemberEnds}
use Rattle.jsonadds.proofs.Items.{Others, others_of_lem}

module _ {A : Type 0} (close : ℕ) (Part : List ℕ → A → List ℕ → Type 0) where
  -- so many are passed; those that are left run from here on
  pub record Passing (line : List ℕ) (at : ℕ) (m : Read (List A)) (count i : ℕ) : Type 0 where
    pub good : Good line at m
    pub from : at + count ≤ i
    pub within : i ≤ length line
    pub left : List A
    pub parts : Run close Part (drop i line) left good.rest
    pub total : count + length left ≡ length good.what

  -- the part that stands here ends at e
  pub record PartEnds (line : List ℕ) (i e : ℕ) : Type 0 where
    pub from : i ≤ e
    pub within : e ≤ length line
    pub is : (a : A) (t : List ℕ) → Part (drop i line) a t → t ≡ drop e line

  module _ {line : List ℕ} {at : ℕ} {m : Read (List A)} (law : (what : List A) (rest : List ℕ) → m ≡ got what rest → Listed close Part (drop at line) what rest) (g : Good line at m) where
    pub listed : Listed close Part (drop at line) g.what g.rest
    listed = law g.what g.rest g.is

    pub pass-signed : Signed line at
    pass-signed = record { within = g.within; sign = listed.first; rest = listed.others; is = listed.byte }

    module _ {x : Result ℕ ℕ} (b : BeginTold line at close x) where
      pub pass-none : {e : ℕ} → x ≡ Err e → g.what ≡ []
      pass-none {e} z = let y = sym listed.byte ∙ (b.closed e z).is in listed.none (eq-eqb listed.first close cc)

      pub pass-empty : {e : ℕ} → x ≡ Err e → CountTold line at m (record { count = 0; end = e })
      pass-empty {e} z =
          let h = b.closed e z in
          let k = h.is in
          record {
            from = omega (arith, h.from);
            within = h.within;
            is =
                λ what rest f.
                let l = law what rest f in
                let y = sym l.byte ∙ k in
                l.left (eq-eqb l.first close cc) ∙ cc;
            many_is = record { is = λ what rest f. sym (ap length (sym (same-got g.is f) ∙ pass-none z)) };
          }

      abbrev pub pass-start : {i : ℕ} → x ≡ Ok i → Passing line at m 0 i
      pass-start {i} z =
          let k = b.next i z in
          record {
            good = g;
            from = omega (arith, k.from);
            within = k.within;
            left = g.what;
            parts = subst (λ (s : List ℕ). Run close Part s g.what g.rest) (sym k.is) (listed.run (ne_eqb listed.first close (k.other listed.first listed.others listed.byte)));
            total = omega arith;
          }

  module _ {line : List ℕ} {at count i e : ℕ} {m : Read (List A)} (g : Passing line at m count i) (p : PartEnds line i e) where
    abbrev pub now : Turn close Part (drop i line) g.left g.good.rest
    now = turn close Part g.parts

    abbrev pub now-others : Others now.what g.left
    now-others = others_of_lem close Part now

    pub sign-here : blanks (drop e line) ≡ now.sign ∷ now.others
    sign-here = ap blanks (sym (p.is now.what now.after now.part)) ∙ now.byte

    pub pass-after : Signed line e
    pass-after = record { within = p.within; sign = now.sign; rest = now.others; is = sign-here }

    module _ {x : Result ℕ ℕ} (b : PartTold line e close x) where
      pub pass-last : {k : ℕ} → x ≡ Err k → now-others.others ≡ []
      pass-last {k} y =
          let same = sym sign-here ∙ (b.closed k y).is in
          let z : now.sign ≡ close = cc in
          let a = sym now-others.is ∙ now.alone z in
          cc

      pub pass-closed : {k : ℕ} → x ≡ Err k → CountTold line at m (record { count = count + 1; end = k })
      pass-closed {k} y =
          let h = b.closed k y in
          let same = sym sign-here ∙ h.is in
          let z : now.sign ≡ close = cc in
          record {
            from = omega (arith, g.from, p.from, h.from);
            within = h.within;
            is = λ what rest f. same_rest f g.good.is ∙ now.left z ∙ cc (same);
            many_is = record { is = λ what rest f. omega (arith, g.total, ap length (now.alone z), ap length (same-got f g.good.is)) };
          }

      abbrev pub pass-again : {j : ℕ} → x ≡ Ok j → Passing line at m (count + 1) j
      pass-again {j} y =
          let c = b.next j y in
          let o = now.next (c.other now.sign now.others sign-here) in
          let a : now-others.others ≡ o.parts = let a = sym now-others.is ∙ o.all-is in cc in
          record {
            good = g.good;
            from = omega (arith, g.from, p.from, c.from);
            within = c.within;
            left = now-others.others;
            parts = subst (λ (s : List ℕ). Run close Part s now-others.others g.good.rest) (sym (c.is now.sign now.others sign-here)) (subst (λ (l : List A). Run close Part (blanks now.others) l g.good.rest) (sym a) o.run);
            total = omega (arith, g.total, ap length now-others.is);
          }

-- ---- items

-- so many are counted; an item is left, or the bracket closed
pub record ItemsPassing (levels : ℕ) (line : List ℕ) (at count : ℕ) (part : Result ℕ ℕ) : Type 0 where
  pub next : (i : ℕ) → part ≡ Ok i → Passing 93 (Item (value levels)) line at (array (value levels) (drop at line)) count i
  pub few : count ≤ length line + 1
  pub told : (k : ℕ) → part ≡ Err k → CountTold line at (array (value levels) (drop at line)) (record { count = count; end = k })

items-law : (line : List ℕ) (at levels : ℕ) (what : List J) (rest : List ℕ) → array (value levels) (drop at line) ≡ got what rest → Listed 93 (Item (value levels)) (drop at line) what rest
items-law line at levels what rest e = array-listed (value levels) (drop at line) e

module _ (levels : ℕ) {line : List ℕ} {at : ℕ} (g : Good line at (array (value levels) (drop at line))) where
  pub count-signed : Signed line at
  count-signed = pass-signed 93 (Item (value levels)) (items-law line at levels) g

  pub count-begun : {x : Result ℕ ℕ} → BeginTold line at 93 x → ItemsPassing levels line at 0 x
  count-begun b = record {
    next = λ i z. pass-start 93 (Item (value levels)) (items-law line at levels) g b z;
    few = omega arith;
    told = λ k z. pass-empty 93 (Item (value levels)) (items-law line at levels) g b z;
  }

module _ (levels : ℕ) {line : List ℕ} {at count i : ℕ} {y : Result ℕ ℕ} (g : ItemsPassing levels line at count y) (z : y ≡ Ok i) where
  pub count-good : Good line i (value levels (drop i line))
  count-good = let k = g.next i z in let n = turn 93 (Item (value levels)) k.parts in record { what = n.what; rest = n.after; within = k.within; is = n.part }

  count-few : count ≤ length line
  count-few = let k = g.next i z in omega (arith, k.from, k.within)

  module _ {e : ℕ} (p : Ends line i e (value levels (drop i line))) where
    item-ends : PartEnds 93 (Item (value levels)) line i e
    item-ends = record { from = p.from; within = p.within; is = λ a t q. p.is a t q }

    pub count-after : Signed line e
    count-after = pass-after 93 (Item (value levels)) (g.next i z) item-ends

    module _ {x : Result ℕ ℕ} (b : PartTold line e 93 x) where
      pub count-again : ItemsPassing levels line at (count + 1) x
      count-again = record {
        next = λ j q. pass-again 93 (Item (value levels)) (g.next i z) item-ends b q;
        few = omega (arith, count-few);
        told = λ k q. pass-closed 93 (Item (value levels)) (g.next i z) item-ends b q;
      }

      pub count_less : ahead line x < ahead line y
      count_less = ahead-less line z b p.from

pub count-told : {levels : ℕ} {line : List ℕ} {at count k : ℕ} {x : Result ℕ ℕ} → ItemsPassing levels line at count x → x ≡ Err k → CountTold line at (array (value levels) (drop at line)) (record { count = count; end = k })
count-told {k = k} g z = g.told k z

-- ---- a member

module _ {levels : ℕ} {line : List ℕ} {at : ℕ} (g : MemberGood levels line at) where
  pub member-name : Good line at (string (drop at line))
  member-name = record { what = g.what.0; rest = g.is.after; within = g.within; is = g.is.name }

  module _ {e : ℕ} (p : Ends line at e (string (drop at line))) where
    colon-here : {what : List ℕ × J} {after : List ℕ} (m : Member (λ n. true) (λ n t. value levels t) (drop at line) what after) → blanks (drop e line) ≡ 58 ∷ m.value
    colon-here {what} m = ap blanks (sym (p.is what.0 m.after m.name)) ∙ m.colon

    pub member-colon : Signed line e
    member-colon = record { within = p.within; sign = 58; rest = g.is.value; is = colon-here g.is }

    module _ {v : ℕ} (q : Past line e v) where
      under : {what : List ℕ × J} {after : List ℕ} → Member (λ n. true) (λ n t. value levels t) (drop at line) what after → value levels (drop v line) ≡ got what.1 after
      under m = ap (value levels) (q.is 58 m.value (colon-here m)) ∙ m.is

      pub member-value : Good line v (value levels (drop v line))
      member-value = record { what = g.what.1; rest = g.after; within = q.within; is = under g.is }

      pub member-ends : {r : ℕ} → Ends line v r (value levels (drop v line)) → MemberEnds levels line at r
      member-ends s = record { from = omega (arith, p.from, q.from, s.from); within = s.within; is = λ what after m. s.is what.1 after (under m) }
