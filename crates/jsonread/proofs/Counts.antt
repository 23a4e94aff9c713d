-- Digits, and the parts of a number
use Rattle.std.specs.Prelude.{Result, Ok, Err}
use mathlib.Core.Path.{◌≡◌, refl, sym, ap, subst, ◌∙◌}
use mathlib.Core.Bool.{Bool, true, false, not}
use mathlib.Core.List.{List}
use Prim.Native.Nat.{ℕ, suc, ◌+◌, ◌*◌, ◌-◌, ◌<◌, ◌≤◌}
use native.Mathlib.Omega.{arith}
use lib.Dec.{eqb, leb, ltb}
use lib.ListN.{length, drop, get_or, length-drop, drop_of_length-le}
use borrow.Author.Tests.{eq-eqb, ne_eqb, lt-ltb, le-ltb, le-leb, lt-leb, leb-true, leb-false, ltb-true, ltb-false, not-true, not-false}
use Rattle.meaning.specs.Tests.{◌or◌, choose}
use Rattle.laws.specs.Tests.{both, yes, no as otherwise}
use Rattle.meaning.specs.Equal.{is_digit}
use Rattle.jsontext.specs.declared.Fault.TheVariants.{NotJson, BadNumber}
use Rattle.jsontext.specs.declared.Bad.{Bad}
use Rattle.jsontext.specs.Reading.{Read, got, fault, then, no, wrong}
use Rattle.jsontext.specs.Numbers.{digits, some_digits, int, frac, unsigned, exp, fits, signed, integer, parts, magnitude, number}
use Rattle.jsonread.specs.declared.integers.Digits.{Digits}
use Rattle.jsonread.specs.Told.{Faulty, Lacks, Told, cap, DigitsTold, IntTold, WholeTold, PartIs, PartTold, Unsigned, others}
use Rattle.jsonread.proofs.Places.{byte_at, told_at, told_bad, wrong-here, told_of, fault-then, lacks-here, then_is}

-- ---- a number that is capped

cap-is : (n : ℕ) → n ≤ 9223372036854775808 → cap n ≡ n
unfolding cap
cap-is n h = yes _ (le-leb n 9223372036854775808 h)

cap-beyond : (n : ℕ) → 9223372036854775808 < n → cap n ≡ 9223372036854775809
unfolding cap
cap-beyond n h = otherwise _ (lt-leb n 9223372036854775808 h) refl

pub more-beyond : (n d : ℕ) → 922337203685477580 < n → 9223372036854775809 ≡ cap (10 * n + d)
more-beyond n d h = sym (cap-beyond (10 * n + d) (omega arith))

pub more_within : (n d : ℕ) → n ≤ 922337203685477580 → d ≤ 9 → 10 * n + d ≡ cap (10 * n + d)
more_within n d h k =
    go (leb (10 * n + d) 9223372036854775808) refl
  where
    go : (b : Bool) → leb (10 * n + d) 9223372036854775808 ≡ b → 10 * n + d ≡ cap (10 * n + d)
    go true e = sym (cap-is (10 * n + d) (leb-true (10 * n + d) 9223372036854775808 e))
    go false e =
        let l : 9223372036854775808 < 10 * n + d = leb-false (10 * n + d) 9223372036854775808 e in
        let q : 10 * n + d ≡ 9223372036854775809 = omega arith in
        q ∙ sym (cap-beyond (10 * n + d) l)

cap-more : (v d : ℕ) → cap (10 * cap v + d) ≡ cap (10 * v + d)
cap-more v d =
    go (leb v 9223372036854775808) refl
  where
    go : (b : Bool) → leb v 9223372036854775808 ≡ b → cap (10 * cap v + d) ≡ cap (10 * v + d)
    go true e = ap (λ (n : ℕ). cap (10 * n + d)) (cap-is v (leb-true v 9223372036854775808 e))
    go false e =
        let l : 9223372036854775808 < v = leb-false v 9223372036854775808 e in
        ap (λ (n : ℕ). cap (10 * n + d)) (cap-beyond v l) ∙ cap-beyond (10 * 9223372036854775809 + d) (omega arith) ∙ sym (cap-beyond (10 * v + d) (omega arith))

-- ---- digits

digit-range : (c : ℕ) {z : Bool} → z ≡ is_digit c → not z ≡ false → (48 ≤ c) × (c ≤ 57)
unfolding is_digit
digit-range c {z = z} q n =
    let b = both (leb 48 c) (leb c 57) (sym q ∙ not-false z n) in
    (leb-true 48 c b.0, leb-true c 57 b.1)

-- a digit's value
pub digit_low : (c : ℕ) {w : ℕ} {z : Bool} → z ≡ is_digit c → not z ≡ false → w ≡ c → 48 ≤ w
digit_low c q n e = let r = digit-range c q n in omega (arith, r.0)

pub digit_value : (c : ℕ) {w : ℕ} {z : Bool} → z ≡ is_digit c → not z ≡ false → w ≡ c → w - 48 ≤ 9
digit_value c q n e = let r = digit-range c q n in omega (arith, r.1)

digits-byte : (line : List ℕ) (n i : ℕ) → i < length line → digits n (drop i line) ≡ choose (is_digit (get_or line i 0)) (digits (10 * n + (get_or line i 0 - 48)) (drop (i + 1) line)) (got n (drop i line))
unfolding digits
digits-byte line n i h = rw (byte_at line i h)

digits-none : (line : List ℕ) (n i : ℕ) → length line ≤ i → digits n (drop i line) ≡ got n (drop i line)
unfolding digits
digits-none line n i h = rw (drop_of_length-le line h)

pub record Counting (line : List ℕ) (at n value i : ℕ) : Type 0 where
  pub sofar : ℕ
  pub from : at ≤ i
  pub within : i ≤ length line
  pub is : value ≡ cap sofar
  pub goes : digits sofar (drop i line) ≡ digits n (drop at line)

pub count-start : {line : List ℕ} {at n : ℕ} → at ≤ length line → n ≤ 9 → Counting line at n n at
count-start {n = n} h k = record { sofar = n; from = omega arith; within = h; is = sym (cap-is n (omega arith)); goes = refl }

module _ {line : List ℕ} {at n value i : ℕ} (g : Counting line at n value i) where
  pub count-end : length line ≤ i → DigitsTold line at n (record { value = value; at = i })
  count-end h = record { what = g.sofar; from = g.from; within = g.within; is = sym g.goes ∙ digits-none line g.sofar i h; value = g.is }

  module _ {z : Bool} (h : i < length line) (q : z ≡ is_digit (get_or line i 0)) where
    pub count-stop : not z ≡ true → DigitsTold line at n (record { value = value; at = i })
    count-stop e = record { what = g.sofar; from = g.from; within = g.within; is = sym g.goes ∙ digits-byte line g.sofar i h ∙ otherwise _ (sym q ∙ not-true z e) refl; value = g.is }

    pub count-more : {w m : ℕ} → not z ≡ false → w ≡ get_or line i 0 → m ≡ cap (10 * value + (w - 48)) → Counting line at n m (i + 1)
    count-more {w} e k r =
        record {
          sofar = 10 * g.sofar + (get_or line i 0 - 48);
          from = omega (arith, g.from);
          within = omega arith;
          is = r ∙ ap (λ (w : ℕ). cap (10 * value + (w - 48))) k ∙ ap (λ (v : ℕ). cap (10 * v + (get_or line i 0 - 48))) g.is ∙ cap-more g.sofar (get_or line i 0 - 48);
          goes = sym (digits-byte line g.sofar i h ∙ yes _ (sym q ∙ not-false z e)) ∙ g.goes;
        }

-- 1*DIGIT
some_byte : (line : List ℕ) (at : ℕ) → at < length line → some_digits (drop at line) ≡ choose (is_digit (get_or line at 0)) (digits (get_or line at 0 - 48) (drop (at + 1) line)) (no NotJson (drop at line))
unfolding some_digits
some_byte line at h = rw (byte_at line at h)

module _ (line : List ℕ) (at : ℕ) where
  pub some_end : at ≤ length line → length line ≤ at → Told line at (Err (wrong NotJson at)) (some_digits (drop at line))
  unfolding some_digits
  some_end h l = wrong-here h (rw (drop_of_length-le line l))

  module _ {z : Bool} (h : at < length line) (q : z ≡ is_digit (get_or line at 0)) where
    no-digits : not z ≡ true → some_digits (drop at line) ≡ no NotJson (drop at line)
    no-digits e = some_byte line at h ∙ otherwise _ (sym q ∙ not-true z e) refl

    pub some-other : not z ≡ true → Told line at (Err (wrong NotJson at)) (some_digits (drop at line))
    some-other e = wrong-here (omega arith) (no-digits e)

    module _ {w : ℕ} {r : Digits} (e : not z ≡ false) (k : w ≡ get_or line at 0) (t : DigitsTold line (at + 1) (w - 48) r) where
      some-are : some_digits (drop at line) ≡ got t.what (drop r.at line)
      some-are = some_byte line at h ∙ yes _ (sym q ∙ not-false z e) ∙ ap (λ (w : ℕ). digits (w - 48) (drop (at + 1) line)) (sym k) ∙ t.is

      pub some-digits : Told line at (Ok r.at) (some_digits (drop at line))
      some-digits = told_at (record { what = t.what; from = omega (arith, t.from); within = t.within; is = some-are })

-- ---- an integer's digits

int-byte : (line : List ℕ) (at : ℕ) → at < length line → int (drop at line) ≡ choose (eqb (get_or line at 0) 48) (got 0 (drop (at + 1) line)) (some_digits (drop at line))
unfolding int
int-byte line at h = rw (byte_at line at h)

whole_is : {line : List ℕ} {at : ℕ} {n : Digits} → IntTold line at n → WholeTold line at (Ok n)
whole_is {line} {at} {n} h =
    record {
      counted = λ m q. let z : n ≡ m = cc in subst (λ (m : Digits). IntTold line at m) z h;
      missing = λ p q. absurd (let z : ◌≡◌ {A = ℕ} 0 1 = cc in omega arith);
    }

whole-lacks : {line : List ℕ} {at p : ℕ} → p ≤ length line → int (drop at line) ≡ no NotJson (drop p line) → WholeTold line at (Err (wrong NotJson p))
whole-lacks {line} {at} {p} h e =
    record {
      counted = λ m q. absurd (let z : ◌≡◌ {A = ℕ} 0 1 = cc in omega arith);
      missing = λ b q. let z : wrong NotJson p ≡ b = cc in subst (λ (b : Bad). Lacks line b (int (drop at line))) z (lacks-here h e);
    }

module _ (line : List ℕ) (at : ℕ) where
  pub int-end : at ≤ length line → length line ≤ at → WholeTold line at (Err (wrong NotJson at))
  unfolding int
  int-end h l = whole-lacks h (rw (drop_of_length-le line l))

  module _ (h : at < length line) where
    pub int-zero : get_or line at 0 ≡ 48 → WholeTold line at (Ok (record { value = 0; at = at + 1 }))
    int-zero e = whole_is (record { what = 0; from = omega arith; within = omega arith; is = int-byte line at h ∙ yes _ (eq-eqb _ _ e); value = sym (cap-is 0 (omega arith)) })

    module _ {z : Bool} (m : get_or line at 0 ≡ 48 → ⊥) (q : z ≡ is_digit (get_or line at 0)) where
      int-some : int (drop at line) ≡ some_digits (drop at line)
      int-some = int-byte line at h ∙ otherwise _ (ne_eqb _ _ m) refl

      pub int-other : not z ≡ true → WholeTold line at (Err (wrong NotJson at))
      int-other e = whole-lacks (omega arith) (int-some ∙ no-digits line at h q e)

      pub int-digits : {w : ℕ} {r : Digits} → not z ≡ false → w ≡ get_or line at 0 → DigitsTold line (at + 1) (w - 48) r → WholeTold line at (Ok r)
      int-digits e k t = whole_is (record { what = t.what; from = omega (arith, t.from); within = t.within; is = int-some ∙ some-are line at h q e k t; value = t.value })

-- ---- a fraction

-- a part that is there takes a byte at least
part-there : {line : List ℕ} {at i : ℕ} {r : Result ℕ Bad} {m : Read Bool} {n : Read ℕ} → at < i → m ≡ then n (λ k rest. got true rest) → Told line i r n → PartTold line at r m
part-there {line = line} {at = at} h q t =
    record {
      part =
          λ e k.
          let s = t.stands e k in
          record { from = omega (arith, s.from); within = s.within; is = q ∙ then_is (λ k rest. got true rest) s.is ∙ ap (λ (b : Bool). got b (drop e line)) (sym (lt-ltb at e (omega (arith, s.from)))) };
      faulty =
          λ b k.
          let s = fault-then (λ k rest. got true rest) (t.faulty b k) in
          record { place = s.place; first = s.first; is = q ∙ s.is };
    }

part_bad : {line : List ℕ} {at : ℕ} {b : Bad} {m : Read Bool} → Faulty line b m → PartTold line at (Err b) m
part_bad {at = at} s =
    let t = told_bad {at = at} s in
    record {
      part = λ e k. absurd (let z : ◌≡◌ {A = ℕ} 0 1 = cc in omega arith);
      faulty = t.faulty;
    }

part_none : {line : List ℕ} {at : ℕ} {m : Read Bool} → at ≤ length line → m ≡ got false (drop at line) → PartTold line at (Ok at) m
part_none {line} {at} {m} h q =
    record {
      part = λ e k. let z : at ≡ e = cc in subst (λ (e : ℕ). PartIs line at e m) z (record { from = omega arith; within = h; is = q ∙ ap (λ (b : Bool). got b (drop at line)) (sym (le-ltb at at (omega arith))) });
      faulty = λ b k. absurd (let z : ◌≡◌ {A = ℕ} 0 1 = cc in omega arith);
    }

frac-byte : (line : List ℕ) (at : ℕ) → at < length line → frac (drop at line) ≡ choose (eqb (get_or line at 0) 46) (then (some_digits (drop (at + 1) line)) (λ n rest. got true rest)) (got false (drop at line))
unfolding frac
frac-byte line at h = rw (byte_at line at h)

module _ (line : List ℕ) (at : ℕ) where
  pub frac-end : at ≤ length line → length line ≤ at → PartTold line at (Ok at) (frac (drop at line))
  unfolding frac
  frac-end h l = part_none h (rw (drop_of_length-le line l))

  module _ (h : at < length line) where
    pub frac-none : (get_or line at 0 ≡ 46 → ⊥) → PartTold line at (Ok at) (frac (drop at line))
    frac-none n = part_none (omega arith) (frac-byte line at h ∙ otherwise _ (ne_eqb _ _ n) refl)

    pub frac-there : {r : Result ℕ Bad} → get_or line at 0 ≡ 46 → Told line (at + 1) r (some_digits (drop (at + 1) line)) → PartTold line at r (frac (drop at line))
    frac-there e t = part-there (omega arith) (frac-byte line at h ∙ yes _ (eq-eqb _ _ e)) t

-- ---- an exponent

sign-byte : (line : List ℕ) (at : ℕ) → at < length line → unsigned (drop at line) ≡ choose (eqb (get_or line at 0) 45 or eqb (get_or line at 0) 43) (drop (at + 1) line) (drop at line)
unfolding unsigned
sign-byte line at h = rw (byte_at line at h)

module _ (line : List ℕ) (at : ℕ) where
  pub sign-end : at ≤ length line → length line ≤ at → Unsigned line at at
  unfolding unsigned
  sign-end h l = record { from = omega arith; within = h; is = rw (drop_of_length-le line l) }

  module _ (h : at < length line) where
    pub sign-minus : get_or line at 0 ≡ 45 → Unsigned line at (at + 1)
    unfolding ◌or◌
    sign-minus e = record { from = omega arith; within = omega arith; is = sym (sign-byte line at h ∙ yes _ (rw (eq-eqb _ _ e))) }

    pub sign-plus : (get_or line at 0 ≡ 45 → ⊥) → get_or line at 0 ≡ 43 → Unsigned line at (at + 1)
    unfolding ◌or◌
    sign-plus n e = record { from = omega arith; within = omega arith; is = sym (sign-byte line at h ∙ yes _ (rw (ne_eqb _ _ n, eq-eqb _ _ e))) }

    pub sign-none : (get_or line at 0 ≡ 45 → ⊥) → (get_or line at 0 ≡ 43 → ⊥) → Unsigned line at at
    unfolding ◌or◌
    sign-none n m = record { from = omega arith; within = omega arith; is = sym (sign-byte line at h ∙ otherwise _ (rw (ne_eqb _ _ n, ne_eqb _ _ m)) refl) }

exp-byte : (line : List ℕ) (at : ℕ) → at < length line → exp (drop at line) ≡ choose (eqb (get_or line at 0) 101 or eqb (get_or line at 0) 69) (then (some_digits (unsigned (drop (at + 1) line))) (λ n rest. got true rest)) (got false (drop at line))
unfolding exp
exp-byte line at h = rw (byte_at line at h)

module _ (line : List ℕ) (at : ℕ) where
  pub exp-end : at ≤ length line → length line ≤ at → PartTold line at (Ok at) (exp (drop at line))
  unfolding exp
  exp-end h l = part_none h (rw (drop_of_length-le line l))

  module _ (h : at < length line) where
    pub exp-none : (get_or line at 0 ≡ 101 → ⊥) → (get_or line at 0 ≡ 69 → ⊥) → PartTold line at (Ok at) (exp (drop at line))
    unfolding ◌or◌
    exp-none n m = part_none (omega arith) (exp-byte line at h ∙ otherwise _ (rw (ne_eqb _ _ n, ne_eqb _ _ m)) refl)

    module _ {i : ℕ} {r : Result ℕ Bad} (u : Unsigned line (at + 1) i) (t : Told line i r (some_digits (drop i line))) where
      exponent : (eqb (get_or line at 0) 101 or eqb (get_or line at 0) 69) ≡ true → PartTold line at r (exp (drop at line))
      exponent e = part-there (omega (arith, u.from)) (exp-byte line at h ∙ yes _ e ∙ ap (λ (s : List ℕ). then (some_digits s) (λ n rest. got true rest)) (sym u.is)) t

      pub exp-lower : get_or line at 0 ≡ 101 → PartTold line at r (exp (drop at line))
      unfolding ◌or◌
      exp-lower e = exponent (rw (eq-eqb _ _ e))

      pub exp-upper : (get_or line at 0 ≡ 101 → ⊥) → get_or line at 0 ≡ 69 → PartTold line at r (exp (drop at line))
      unfolding ◌or◌
      exp-upper n e = exponent (rw (ne_eqb _ _ n, eq-eqb _ _ e))

-- ---- a number's parts together

pub fit-minus : (n : ℕ) {minus : Bool} → minus ≡ true → leb n 9223372036854775808 ≡ fits minus n
unfolding fits
fit-minus n e = rw e

pub fit-plus : (n : ℕ) {minus : Bool} → minus ≡ false → leb n 9223372036854775807 ≡ fits minus n
unfolding fits
fit-plus n e = rw e

too_great : (minus : Bool) (n : ℕ) → 9223372036854775808 < n → fits minus n ≡ false
unfolding fits
too_great true n h = lt-leb n 9223372036854775808 h
too_great false n h = lt-leb n 9223372036854775807 (omega arith)

fits-cap : (minus : Bool) (v : ℕ) → fits minus (cap v) ≡ fits minus v
fits-cap minus v =
    go (leb v 9223372036854775808) refl
  where
    go : (b : Bool) → leb v 9223372036854775808 ≡ b → fits minus (cap v) ≡ fits minus v
    go true e = ap (fits minus) (cap-is v (leb-true v 9223372036854775808 e))
    go false e =
        let l : 9223372036854775808 < v = leb-false v 9223372036854775808 e in
        too_great minus (cap v) (omega (arith, cap-beyond v l)) ∙ sym (too_great minus v l)

pub part-within : {line : List ℕ} {at e : ℕ} {x : Result ℕ Bad} {m : Read Bool} → PartTold line at x m → x ≡ Ok e → e ≤ length line
part-within t q = (t.part _ q).within

-- an exponent after a fraction
abbrev or_exp : Bool → List ℕ → Read Bool
or_exp f s = then (exp s) (λ e rest. got (f or e) rest)

module _ {line : List ℕ} {at : ℕ} {x : Result ℕ Bad} (t : PartTold line at x (frac (drop at line))) where
  pub others-frac : {b : Bad} → x ≡ Err b → PartTold line at (Err b) (others (drop at line))
  unfolding others
  others-frac e = part_bad (fault-then (λ f rest. or_exp f rest) (t.faulty _ e))

  module _ {f : ℕ} {y : Result ℕ Bad} (e : x ≡ Ok f) (u : PartTold line f y (exp (drop f line))) where
    frac-read : others (drop at line) ≡ or_exp (ltb at f) (drop f line)
    unfolding others
    frac-read = then_is (λ f rest. or_exp f rest) (t.part _ e).is

    either : {g : ℕ} → f ≤ g → (ltb at f or ltb f g) ≡ ltb at g
    unfolding ◌or◌
    either {g} h =
        go (ltb at f) refl
      where
        go : (b : Bool) → ltb at f ≡ b → (b or ltb f g) ≡ ltb at g
        go true q = sym (lt-ltb at g (omega (arith, ltb-true at f q)))
        go false q = let z : at ≡ f = omega (arith, ltb-false at f q, (t.part _ e).from) in ap (λ (k : ℕ). ltb k g) (sym z)

    pub others-exp : PartTold line at y (others (drop at line))
    others-exp =
        record {
          part =
              λ g k.
              let s = u.part g k in
              record {
                from = omega (arith, (t.part _ e).from, s.from);
                within = s.within;
                is = frac-read ∙ then_is (λ e rest. got (ltb at f or e) rest) s.is ∙ ap (λ (b : Bool). got b (drop g line)) (either s.from);
              };
          faulty =
              λ b k.
              let s = fault-then (λ e rest. got (ltb at f or e) rest) (u.faulty b k) in
              record { place = s.place; first = s.first; is = frac-read ∙ s.is };
        }

parts-others : (left v : ℕ) (minus : Bool) (s : List ℕ) → parts left minus v s ≡ then (others s) (λ o rest. integer left minus o v rest)
unfolding parts others then
parts-others left v minus s =
    go (frac s)
  where
    after : (f : Bool) (m : Read Bool) → then m (λ e rest. integer left minus (f or e) v rest) ≡ then (then m (λ e rest. got (f or e) rest)) (λ o rest. integer left minus o v rest)
    after f (got e rest) = refl
    after f (fault w p q) = refl

    go : (m : Read Bool) → then m (λ f rest. then (exp rest) (λ e rest. integer left minus (f or e) v rest)) ≡ then (then m (λ f rest. then (exp rest) (λ e rest. got (f or e) rest))) (λ o rest. integer left minus o v rest)
    go (got f rest) = after f (exp rest)
    go (fault w p q) = refl

module _ (line : List ℕ) (first a : ℕ) (minus : Bool) {x : Result ℕ Bad} (v : ℕ) (t : PartTold line a x (others (drop a line))) where
  pub parts_bad : {b : Bad} → x ≡ Err b → Told line first (Err b) (parts (length line - first) minus v (drop a line))
  parts_bad e = told_of {i = first} (omega arith) (parts-others (length line - first) v minus (drop a line)) (told_bad (fault-then (λ o rest. integer (length line - first) minus o v rest) (t.faulty _ e)))

  module _ {g : ℕ} (k : x ≡ Ok g) where
    others-read : parts (length line - first) minus v (drop a line) ≡ integer (length line - first) minus (ltb a g) v (drop g line)
    others-read = parts-others (length line - first) v minus (drop a line) ∙ then_is (λ o rest. integer (length line - first) minus o v rest) (t.part _ k).is

    pub parts-there : first ≤ a → a ≤ length line → a < g → Told line first (Err (wrong BadNumber first)) (parts (length line - first) minus v (drop a line))
    unfolding integer
    parts-there s l h = told_bad (record { place = omega arith; first = omega arith; is = others-read ∙ yes _ (lt-ltb a g h) })

    module _ {n : ℕ} {z : Bool} (h : g ≤ a) (c : n ≡ cap v) (q : z ≡ fits minus n) where
      fit_is : fits minus v ≡ z
      fit_is = sym (fits-cap minus v) ∙ ap (fits minus) (sym c) ∙ sym q

      pub parts-fit : first ≤ a → z ≡ true → Told line first (Ok g) (parts (length line - first) minus v (drop a line))
      unfolding integer
      parts-fit s b = told_at (record { what = signed minus v; from = omega (arith, (t.part _ k).from); within = (t.part _ k).within; is = others-read ∙ otherwise _ (le-ltb a g h) (yes _ (fit_is ∙ b)) })

      pub parts_unfit : first ≤ a → a ≤ length line → z ≡ false → Told line first (Err (wrong BadNumber first)) (parts (length line - first) minus v (drop a line))
      unfolding integer
      parts_unfit s l b = told_bad (record { place = omega arith; first = omega arith; is = others-read ∙ otherwise _ (le-ltb a g h) (otherwise _ (fit_is ∙ b) refl) })

-- ---- after the sign, and with it

pub counted-from : {line : List ℕ} {at first : ℕ} {x : Result Digits Bad} {n : Digits} → first ≤ at → WholeTold line at x → x ≡ Ok n → first ≤ n.at
counted-from h t q = omega (arith, (t.counted _ q).from)

pub counted-within : {line : List ℕ} {at : ℕ} {x : Result Digits Bad} {n : Digits} → WholeTold line at x → x ≡ Ok n → n.at ≤ length line
counted-within t q = (t.counted _ q).within

module _ (line : List ℕ) (first at : ℕ) (minus : Bool) {x : Result Digits Bad} (t : WholeTold line at x) where
  pub magnitude-none : {b : Bad} → x ≡ Err b → Told line first (Err b) (magnitude (length line - first) minus (drop at line))
  unfolding magnitude
  magnitude-none e = told_bad (fault-then (λ n rest. parts (length line - first) minus n rest) (t.missing _ e).faulty)

  pub magnitude-parts : {n : Digits} {r : Result ℕ Bad} → x ≡ Ok n → ((v : ℕ) → n.value ≡ cap v → Told line first r (parts (length line - first) minus v (drop n.at line))) → Told line first r (magnitude (length line - first) minus (drop at line))
  unfolding magnitude
  magnitude-parts e u =
      let i = t.counted _ e in
      told_of (omega arith) (then_is (λ n rest. parts (length line - first) minus n rest) i.is) (u i.what i.value)

number-byte : (line : List ℕ) (at : ℕ) → at < length line → number (drop at line) ≡ choose (eqb (get_or line at 0) 45) (magnitude (length line - at) true (drop (at + 1) line)) (magnitude (length line - at) false (drop at line))
unfolding number
number-byte line at h =
    let k : suc (length (drop (at + 1) line)) ≡ length line - at = omega (arith, length-drop (at + 1) line) in
    rw (← k, byte_at line at h)

module _ (line : List ℕ) (at : ℕ) where
  pub number-end : at ≤ length line → length line ≤ at → Told line at (Err (wrong NotJson at)) (number (drop at line))
  unfolding number
  number-end h l = wrong-here h (rw (drop_of_length-le line l))

  module _ {r : Result ℕ Bad} (h : at < length line) where
    pub number-minus : get_or line at 0 ≡ 45 → Told line at r (magnitude (length line - at) true (drop (at + 1) line)) → Told line at r (number (drop at line))
    number-minus e t = told_of (omega arith) (number-byte line at h ∙ yes _ (eq-eqb _ _ e)) t

    pub number-plain : (get_or line at 0 ≡ 45 → ⊥) → Told line at r (magnitude (length line - at) false (drop at line)) → Told line at r (number (drop at line))
    number-plain n t = told_of (omega arith) (number-byte line at h ∙ otherwise _ (ne_eqb _ _ n) refl) t
