-- A string's bytes, one after another: what is done and what is left
use mathlib.Core.Path.{◌≡◌, refl, sym, ap, subst, ◌∙◌}
use mathlib.Core.Bool.{Bool, true, false}
use mathlib.Core.List.{List, [], ◌∷◌, ◌++◌, append_assoc, append-nil}
use Prim.Native.Nat.{ℕ, zero, suc, ◌+◌, ◌*◌, ◌-◌, ◌<◌, ◌≤◌}
use native.Mathlib.Omega.{arith}
use lib.Dec.{ltb}
use lib.ListN.{length, drop, get_or, set, length-append, length-set, drop_of_length-le}
use lib.Seq.{sets-eq}
use borrow.Author.Tests.{ltb-true, ltb-false}
use Rattle.std.specs.Prelude.{Result, Ok, Err}
use Rattle.meaning.specs.Tests.{◌and◌, choose}
use Rattle.meaning.specs.Text.{next, follow, ended}
use Rattle.meaning.specs.declared.Due.{Due}
use Rattle.meaning.specs.declared.Due.TheVariants.{Nothing, One, Two, Three, AfterE0, AfterEd, AfterF0, AfterF4, Wrong as Never}
use Rattle.laws.specs.Writing.{Writing, write-none, write-more}
use Rattle.jsontext.specs.declared.Bad.{Bad}
use Rattle.jsontext.specs.Reading.{Read, got, then, mapped}
use Rattle.jsontext.specs.Strings.{utf8_of, escape, is_wrong, chars, string}
use Rattle.jsonread.specs.Told.{CharTold}
use Rattle.jsonread.proofs.Places.{byte_at, then_is}
use Rattle.jsonread.proofs.Spelling.{never, Came, came, none_left, after_slash, slashed, plain, string-none, string-text}
use Rattle.jsonspelt.specs.declared.Spelt.{Spelt}
use Rattle.jsonspelt.specs.Spelt.{SpeltTold, Put, Fits, PutTold}
use Rattle.jsonspelt.proofs.Characters.{bytes_one, bytes-two, bytes-three, bytes-four}

-- a quotation mark ends a string
record Quoted (s text rest : List ℕ) : Type 0 where
  pub text-none : text ≡ []
  pub rest-is : rest ≡ s

quoted : (turns : ℕ) (d : Due) (s : List ℕ) {text rest : List ℕ} → chars turns d (34 ∷ s) ≡ got text rest → Quoted s text rest
unfolding chars choose ended ◌and◌ next follow is_wrong
quoted zero d s e = absurd (never e)
quoted (suc turns) Nothing s e = record { text-none = cc; rest-is = cc }
quoted (suc turns) One s e = absurd (never e)
quoted (suc turns) Two s e = absurd (never e)
quoted (suc turns) Three s e = absurd (never e)
quoted (suc turns) AfterE0 s e = absurd (never e)
quoted (suc turns) AfterEd s e = absurd (never e)
quoted (suc turns) AfterF0 s e = absurd (never e)
quoted (suc turns) AfterF4 s e = absurd (never e)
quoted (suc turns) Never s e = absurd (never e)

few_bytes : (u : ℕ) → length (utf8_of u) ≤ 4
few_bytes u =
    one (ltb u 128) refl
  where
    three : (x : Bool) → ltb u 65536 ≡ x → 128 ≤ u → 2048 ≤ u → length (utf8_of u) ≤ 4
    three true q a b = omega (arith, bytes-three u a b (ltb-true u 65536 q))
    three false q a b = omega (arith, bytes-four u a b (ltb-false u 65536 q))

    two : (x : Bool) → ltb u 2048 ≡ x → 128 ≤ u → length (utf8_of u) ≤ 4
    two true q a = omega (arith, bytes-two u a (ltb-true u 2048 q))
    two false q a = three (ltb u 65536) refl a (ltb-false u 2048 q)

    one : (x : Bool) → ltb u 128 ≡ x → length (utf8_of u) ≤ 4
    one true q = omega (arith, bytes_one u (ltb-true u 128 q))
    one false q = two (ltb u 2048) refl (ltb-false u 128 q)

-- of a string that reads well: the bytes done, and what is left from i on
pub record Left (line : List ℕ) (i : ℕ) (done text rest : List ℕ) : Type 0 where
  pub turns : ℕ
  pub due : Due
  pub others : List ℕ
  pub is : chars turns due (drop i line) ≡ got others rest
  pub all : text ≡ done ++ others

pub record Going (line : List ℕ) (at bytes i : ℕ) : Type 0 where
  pub done : List ℕ
  pub many : bytes ≡ length done
  pub from : at < i
  pub few : bytes + 2 ≤ 2 * i
  pub goes : (text rest : List ℕ) → string (drop at line) ≡ got text rest → Left line i done text rest

-- a string's characters stand after its quotation mark
begun : (line : List ℕ) (at : ℕ) {text rest : List ℕ} → string (drop at line) ≡ got text rest → Left line (at + 1) [] text rest
begun line at {text} {rest} e =
    go (ltb at (length line)) refl
  where
    go : (x : Bool) → ltb at (length line) ≡ x → Left line (at + 1) [] text rest
    go true q = record { turns = suc (length (drop (at + 1) line)); due = Nothing; others = text; is = string-text (get_or line at 0) (drop (at + 1) line) (sym (ap string (byte_at line at (ltb-true at (length line) q))) ∙ e); all = refl }
    go false q = absurd (string-none (sym (ap string (drop_of_length-le line (ltb-false at (length line) q))) ∙ e))

pub going_start : (line : List ℕ) (at : ℕ) → Going line at 0 (at + 1)
going_start line at = record { done = []; many = refl; from = omega arith; few = omega arith; goes = λ text rest e. begun line at e }

module _ {line : List ℕ} {at bytes i : ℕ} (g : Going line at bytes i) where
  -- the string does not end with the line
  no_end : {text rest : List ℕ} → length line ≤ i → string (drop at line) ≡ got text rest → ⊥
  no_end {text} {rest} h e = let l = g.goes text rest e in none_left l.turns l.due (ap (λ (s : List ℕ). chars l.turns l.due s) (sym (drop_of_length-le line h)) ∙ l.is)

  pub going_end : {r : Spelt} → length line ≤ i → SpeltTold line at r
  going_end h text rest e = absurd (no_end h e)

  module _ (h : i < length line) where
    here : {done text rest : List ℕ} {b : ℕ} (l : Left line i done text rest) → get_or line i 0 ≡ b → chars l.turns l.due (b ∷ drop (i + 1) line) ≡ got l.others rest
    here l e = ap (λ (b : ℕ). chars l.turns l.due (b ∷ drop (i + 1) line)) (sym e) ∙ sym (ap (λ (s : List ℕ). chars l.turns l.due s) (byte_at line i h)) ∙ l.is

    module _ {text rest : List ℕ} (q : get_or line i 0 ≡ 34) (e : string (drop at line) ≡ got text rest) where
      ends : Quoted (drop (i + 1) line) (g.goes text rest e).others rest
      ends = quoted (g.goes text rest e).turns (g.goes text rest e).due (drop (i + 1) line) (here (g.goes text rest e) q)

      all_done : g.done ≡ text
      all_done = sym ((g.goes text rest e).all ∙ ap (λ (o : List ℕ). g.done ++ o) ends.text-none ∙ append-nil g.done)

    pub going-quote : get_or line i 0 ≡ 34 → SpeltTold line at (record { bytes = bytes; end = i + 1 })
    going-quote q text rest e = record { from = omega (arith, g.from); within = omega arith; is = (ends q e).rest-is; many = g.many ∙ ap length (all_done q e) }

    module _ (n : get_or line i 0 ≡ 34 → ⊥) (m : get_or line i 0 ≡ 92 → ⊥) where
      byte_left : {text rest : List ℕ} → string (drop at line) ≡ got text rest → bytes + 1 ≤ length text
      byte_left {text} {rest} e =
          let l = g.goes text rest e in
          let p = plain l.turns l.due (get_or line i 0) (drop (i + 1) line) n m (here l refl) in
          omega (arith, g.many, ap length l.all, length-append g.done l.others, ap length p.makes)

      pub going-plain : Going line at (bytes + 1) (i + 1)
      going-plain = record {
        done = g.done ++ (get_or line i 0 ∷ []);
        many = omega (arith, g.many, length-append g.done (get_or line i 0 ∷ []));
        from = omega (arith, g.from);
        few = omega (arith, g.few);
        goes =
            λ text rest e.
            let l = g.goes text rest e in
            let p = plain l.turns l.due (get_or line i 0) (drop (i + 1) line) n m (here l refl) in
            record { turns = p.turns; due = p.due; others = p.others; is = p.is; all = l.all ∙ ap (λ (o : List ℕ). g.done ++ o) p.makes ∙ sym (append_assoc g.done (get_or line i 0 ∷ []) p.others) };
      }

    module _ (q : get_or line i 0 ≡ 92) {x : Result (ℕ × ℕ) Bad} (t : CharTold line (i + 1 + 1) x (escape (drop (i + 1) line))) where
      after : {done text rest : List ℕ} (l : Left line i done text rest) → after_slash (l.turns - 1) (drop (i + 1) line) ≡ got l.others rest
      after l = slashed l.turns l.due (drop (i + 1) line) (here l q)

      no-wrong : {p : Bad} {text rest : List ℕ} → x ≡ Err p → string (drop at line) ≡ got text rest → ⊥
      unfolding then
      no-wrong {text = text} {rest = rest} w e =
          let l = g.goes text rest e in
          never (sym (ap (λ (m : Read (List ℕ)). then m (λ b rest. mapped (λ t. b ++ t) (chars (l.turns - 1) Nothing rest))) (t.missing _ w).faulty.is) ∙ after l)

      pub going-wrong : {p : Bad} {r : Spelt} → x ≡ Err p → SpeltTold line at r
      going-wrong w text rest e = absurd (no-wrong w e)

      module _ {u e : ℕ} (f : x ≡ Ok (u, e)) where
        came_of : {text rest : List ℕ} (v : string (drop at line) ≡ got text rest) → Came (λ t. utf8_of u ++ t) (chars ((g.goes text rest v).turns - 1) Nothing (drop e line)) (g.goes text rest v).others rest
        came_of {text} {rest} v =
            let l = g.goes text rest v in
            came (λ t. utf8_of u ++ t) (chars (l.turns - 1) Nothing (drop e line)) (sym (then_is (λ b rest. mapped (λ t. b ++ t) (chars (l.turns - 1) Nothing rest)) (t.found _ _ f).is) ∙ after l)

        character-left : {text rest : List ℕ} → string (drop at line) ≡ got text rest → bytes + length (utf8_of u) ≤ length text
        character-left {text} {rest} v =
            let l = g.goes text rest v in
            omega (arith, g.many, ap length l.all, length-append g.done l.others, ap length (came_of v).makes, length-append (utf8_of u) (came_of v).what)

        pub going-escape : {b : ℕ} → b ≡ length (utf8_of u) → Going line at (bytes + b) e
        going-escape {b} k =
            let c = t.found _ _ f in
            record {
              done = g.done ++ utf8_of u;
              many = omega (arith, g.many, k, length-append g.done (utf8_of u));
              from = omega (arith, g.from, c.from);
              few = omega (arith, g.few, k, few_bytes u, c.from);
              goes =
                  λ text rest v.
                  let l = g.goes text rest v in
                  let m = came_of v in
                  record { turns = l.turns - 1; due = Nothing; others = m.what; is = m.is; all = l.all ∙ ap (λ (o : List ℕ). g.done ++ o) m.makes ∙ sym (append_assoc g.done (utf8_of u) m.what) };
            }

-- ---- the bytes done are written

pub record Putting (line : List ℕ) (at : ℕ) (before out : List ℕ) (to k i : ℕ) : Type 0 where
  pub bytes : ℕ
  pub counts : k ≡ to + bytes
  pub from : to ≤ k
  pub below : k ≤ length before
  pub long : length out ≡ length before
  pub going : Going line at bytes i
  pub written : Writing before out to going.done

pub put-start : {line before : List ℕ} {at to : ℕ} → Fits line at to before → Putting line at before before to to (at + 1)
unfolding going_start
put-start {line} {before} {at} {to} f = record { bytes = 0; counts = omega arith; from = omega arith; below = omega (arith, f.room); long = refl; going = going_start line at; written = write-none before to }

module _ {line before out : List ℕ} {at to k i : ℕ} (g : Putting line at before out to k i) where
  counted : k - to ≡ g.bytes
  counted = omega (arith, g.counts)

  pub put-end : {r : Spelt} → length line ≤ i → PutTold line at before out to r
  put-end h text rest e = absurd (no_end g.going h e)

  module _ (h : i < length line) where
    pub put-quote : get_or line i 0 ≡ 34 → PutTold line at before out to (record { bytes = k - to; end = i + 1 })
    put-quote q text rest e = record {
      spelt = rw counted (going-quote g.going h q text rest e);
      written = subst (λ (t : List ℕ). Writing before out to t) (all_done g.going h q e) g.written;
    }

    module _ (n : get_or line i 0 ≡ 34 → ⊥) (m : get_or line i 0 ≡ 92 → ⊥) (fits : Fits line at to before) where
      pub byte-room : k < length out
      byte-room = omega (arith, g.counts, g.long, fits.room, byte_left g.going h n m fits.is)

      pub put-plain : Putting line at before (set out k (get_or line i 0)) to (k + 1) (i + 1)
      unfolding going-plain
      put-plain = record {
        bytes = g.bytes + 1;
        counts = omega (arith, g.counts);
        from = omega (arith, g.from);
        below = omega (arith, byte-room, g.long);
        long = length-set out k (get_or line i 0) ∙ g.long;
        going = going-plain g.going h n m;
        written = write-more (get_or line i 0 ∷ []) k g.written (omega (arith, fits.room)) (omega (arith, g.counts, g.going.many)) (sets-eq (get_or line i 0 ∷ []) out k (omega (arith, byte-room)));
      }

    module _ (q : get_or line i 0 ≡ 92) {x : Result (ℕ × ℕ) Bad} (t : CharTold line (i + 1 + 1) x (escape (drop (i + 1) line))) where
      pub put_wrong : {p : Bad} {r : Spelt} → x ≡ Err p → PutTold line at before out to r
      put_wrong w text rest e = absurd (no-wrong g.going h q t w e)

      module _ {u e : ℕ} (f : x ≡ Ok (u, e)) (fits : Fits line at to before) where
        pub character-room : k + length (utf8_of u) ≤ length out
        character-room = omega (arith, g.counts, g.long, fits.room, character-left g.going h q t f fits.is)

        pub put-escape : {w : List ℕ} {j : ℕ} → Put out w k (utf8_of u) j → length w ≡ length out → Putting line at before w to j e
        unfolding going-escape
        put-escape p l = record {
          bytes = g.bytes + length (utf8_of u);
          counts = omega (arith, g.counts, p.end);
          from = omega (arith, g.from, p.end);
          below = omega (arith, character-room, g.long, p.end);
          long = l ∙ g.long;
          going = going-escape g.going h q t f refl;
          written = write-more (utf8_of u) k g.written (omega (arith, fits.room)) (omega (arith, g.counts, g.going.many)) p.is.is;
        }

pub escape-shorter : {line : List ℕ} {i u e : ℕ} {x : Result (ℕ × ℕ) Bad} {m : Read (List ℕ)} → i < length line → CharTold line (i + 1 + 1) x m → x ≡ Ok (u, e) → length line - e < length line - i
escape-shorter h t f = omega (arith, (t.found _ _ f).from)

pub fits-within : {line out : List ℕ} {at to : ℕ} → Fits line at to out → at ≤ length line
fits-within f = f.within
