-- A decimal's parts, put together: the cut at the point, the sign, the scaled number, and two decimals compared
use mathlib.Core.Path.{◌≡◌, refl, sym, ◌∙◌, ap}
use mathlib.Core.Bool.{Bool, true, false, not, cond, ◌&&◌}
use mathlib.Core.List.{List, [], ◌∷◌, ◌++◌, append_assoc}
use mathlib.Core.Option.{Option, none, some}
use Prim.Native.Nat.{ℕ, zero, suc, ◌+◌, ◌*◌, ◌-◌, ◌^◌, ◌<◌, ◌≤◌, min}
use native.Mathlib.Omega.{arith}
use native.Mathlib.Numerals.{add-one}
use native.Mathlib.Nat.{mul-le-mul}
use lib.Dec.{eqb, ltb, leb}
use lib.ListN.{length, take, drop, length-drop}
use lib.Seq.{take_all}
use lib.IntN.{ℤ, pos, negsuc, neg_ℤ, ◌-ℤ◌}
use lib.Signed.{mag}
use mir.Val.{to_z, of_z, Fits, SFits}
use mir.Facts.{of_z-to_z, to_z-of_z}
use mir.Syntax.{w64}
use borrow.Author.Tests.{leb-true, leb-false, lt-leb, le-leb, lt-ltb, le-ltb, ltb-true, ltb-false, ne_eqb, eq-eqb, eqb-true, eqb-false, not-true, not-false}
use Rattle.meaning.specs.Tests.{◌and◌, only_if}
use Rattle.meaning.specs.Case.{case_of, text}
use Rattle.laws.specs.Tests.{both, stop, skip, after, and-true}
use Rattle.meaning.specs.Equal.{digits, natural, cut, unsigned, scaled, decimal, decimal_key, same_list}
use Rattle.std.specs.Prelude.{Option as Maybe, Some, None, SomeIff, position}
use Rattle.std.specs.List.{position_or_len, starts_with}
use Rattle.numbers.specs.Numbers.{signed_by}
use Rattle.numbers.specs.Decimals.{decimal_of, unsigned_of}
use Rattle.numbers.proofs.Reading.{digit-fits}
use Rattle.laws.specs.Text.{list_same}
use Rattle.numbers.specs.Keys.{number-key, text-key, key-some, key-none}

-- ---- the fraction: at most four digits

four : (s : List ℕ) → digits s ≡ true → length s ≤ 4 → natural 0 s ≤ 9999
unfolding digits natural
four [] e h = omega arith
four (a ∷ []) e h = omega (arith, digit-fits a (both _ _ e).0)
four (a ∷ b ∷ []) e h = let q = both _ _ (both _ _ e).1 in omega (arith, digit-fits a (both _ _ e).0, digit-fits b q.0)
four (a ∷ b ∷ c ∷ []) e h =
    let q = both _ _ (both _ _ e).1 in
    let r = both _ _ q.1 in
    omega (arith, digit-fits a (both _ _ e).0, digit-fits b q.0, digit-fits c r.0)
four (a ∷ b ∷ c ∷ d ∷ []) e h =
    let q = both _ _ (both _ _ e).1 in
    let r = both _ _ q.1 in
    let t = both _ _ r.1 in
    omega (arith, digit-fits a (both _ _ e).0, digit-fits b q.0, digit-fits c r.0, digit-fits d t.0)
four (a ∷ b ∷ c ∷ d ∷ x ∷ s) e h = absurd (omega arith)

module _ (s : List ℕ) (n : ℕ) (e : digits s ≡ true) (h : length s ≤ 4) (en : n ≡ min 1000000000000000 (natural 0 s)) where
  whole-number : n ≡ natural 0 s
  whole-number = omega (arith, four s e h)

  -- k digits, m what is left of the scale
  pub fraction_of : (k m : ℕ) → length s ≡ k → 10 ^ (4 - k) ≡ m → n * m ≡ natural 0 s * 10 ^ (4 - length s)
  fraction_of k m l p = rw (l, p, whole-number) refl

  pub fraction_last : (length s ≡ 0 → ⊥) → (length s ≡ 1 → ⊥) → (length s ≡ 2 → ⊥) → (length s ≡ 3 → ⊥) → n ≡ natural 0 s * 10 ^ (4 - length s)
  fraction_last a b c d =
      let l : length s ≡ 4 = omega arith in
      let one : n * 1 ≡ natural 0 s * 10 ^ (4 - length s) = fraction_of 4 1 l refl in
      omega arith

  pub fraction_small : n < 100000000
  fraction_small = omega (arith, four s e h, whole-number)

  pub scaled_small : (m : ℕ) → leb m 10000 ≡ true → n * m < 100000000
  scaled_small m q =
      let nine : n ≤ 9999 = omega (arith, four s e h, whole-number) in
      omega (arith, mul-le-mul nine (leb-true m 10000 q))

-- ---- the cut

-- a slice from q on
tail-is : (s : List ℕ) (q : ℕ) → take (length s - q) (drop q s) ≡ drop q s
tail-is s q = take_all (length s - q) (drop q s) (omega (arith, length-drop q s))

append-none : (l : List ℕ) → l ++ [] ≡ l
append-none [] = refl
append-none (x ∷ l) = ap (λ (t : List ℕ). x ∷ t) (append-none l)

-- where the first point stands, or the length
abbrev point_in : List ℕ → ℕ
point_in s = position_or_len (λ b. eqb b 46) s

point-here : (b : ℕ) (s : List ℕ) → b ≡ 46 → point_in (b ∷ s) ≡ 0
point-here b s e = rw (eq-eqb b 46 e) refl

point-later : (b : ℕ) (s : List ℕ) → (b ≡ 46 → ⊥) → point_in (b ∷ s) ≡ suc (point_in s)
point-later b s e = rw (ne_eqb b 46 e) (omega arith)

cut-none : (before l : List ℕ) → length l ≤ point_in l → cut before l ≡ none
unfolding cut
cut-none before [] h = refl
cut-none before (b ∷ l) h = go (eqb b 46) refl (λ k. cut-none (before ++ (b ∷ [])) l k)
  where
    go : (t : Bool) → eqb b 46 ≡ t → (length l ≤ point_in l → cut (before ++ (b ∷ [])) l ≡ none) → ◌≡◌ {A = Option (List ℕ × List ℕ)} (elim t [ true ↦ some (before, l) | false ↦ cut (before ++ (b ∷ [])) l ]) none
    go true e f = absurd (omega (arith, point-here b l (eqb-true b 46 e)))
    go false e f = f (omega (arith, point-later b l (eqb-false b 46 e)))

cut-some : (before l : List ℕ) → point_in l < length l → cut before l ≡ some (before ++ take (point_in l) l, drop (suc (point_in l)) l)
unfolding cut
cut-some before [] h = absurd (omega arith)
cut-some before (b ∷ l) h = go (eqb b 46) refl (λ k. cut-some (before ++ (b ∷ [])) l k)
  where
    go : (t : Bool) → eqb b 46 ≡ t → (point_in l < length l → cut (before ++ (b ∷ [])) l ≡ some ((before ++ (b ∷ [])) ++ take (point_in l) l, drop (suc (point_in l)) l)) → ◌≡◌ {A = Option (List ℕ × List ℕ)} (elim t [ true ↦ some (before, l) | false ↦ cut (before ++ (b ∷ [])) l ]) (some (before ++ take (point_in (b ∷ l)) (b ∷ l), drop (suc (point_in (b ∷ l))) (b ∷ l)))
    go true e f = rw (point-here b l (eqb-true b 46 e), append-none before) refl
    go false e f =
        let p : point_in (b ∷ l) ≡ suc (point_in l) = point-later b l (eqb-false b 46 e) in
        f (omega arith) ∙ rw (p, append_assoc before (b ∷ []) (take (point_in l) l)) refl

module _ (minus : Bool) (s : List ℕ) (o : Maybe ℕ) (eo : o ≡ position (λ b. eqb b 46) s) where
  missed : o ≡ None → length s ≤ point_in s
  missed e = go (ltb (point_in s) (length s)) refl (sym eo ∙ e)
    where
      go : (t : Bool) → ltb (point_in s) (length s) ≡ t → cond t (Some (point_in s)) None ≡ None → length s ≤ point_in s
      go true q f = cc
      go false q f = ltb-false _ _ q

  pub point-at : (p : ℕ) → o ≡ Some p → (p < length s) × (p ≡ point_in s)
  point-at p e = go (ltb (point_in s) (length s)) refl (sym eo ∙ e)
    where
      go : (t : Bool) → ltb (point_in s) (length s) ≡ t → cond t (Some (point_in s)) None ≡ Some p → (p < length s) × (p ≡ point_in s)
      go true q f = let h : point_in s < length s = ltb-true _ _ q in let e : point_in s ≡ p = cc in (omega arith, omega arith)
      go false q f = cc

  pub unsigned-none : o ≡ None → decimal_of None ≡ unsigned_of minus s
  unfolding decimal_of unsigned_of
  unsigned-none e = sym (ap (λ (o : Option (List ℕ × List ℕ)). elim o as (λ o. Option ℤ) [ none ↦ none | some parts ↦ scaled minus parts.0 parts.1 ]) (cut-none [] s (missed e)))

  pub unsigned-some : (p : ℕ) (r : Maybe ℕ) → o ≡ Some p → decimal_of r ≡ scaled minus (take p s) (take (length s - (p + 1)) (drop (p + 1) s)) → decimal_of r ≡ unsigned_of minus s
  unfolding unsigned_of
  unsigned-some p r k e =
      let at = point-at p k in
      let q : point_in s < length s = omega arith in
      let same : scaled minus (take p s) (take (length s - (p + 1)) (drop (p + 1) s)) ≡ scaled minus (take (point_in s) s) (drop (suc (point_in s)) s) = rw (tail-is s (p + 1), add-one p, at.1) refl in
      e ∙ same ∙ sym (ap (λ (o : Option (List ℕ × List ℕ)). elim o as (λ o. Option ℤ) [ none ↦ none | some parts ↦ scaled minus parts.0 parts.1 ]) (cut-some [] s q))

-- ---- the sign

split : ℕ → List ℕ → Bool → Bool × List ℕ
split b s true = (true, s)
split b s false = (false, b ∷ s)

first-is : (b : ℕ) (s : List ℕ) (t : Bool) → eqb b 45 ≡ t → split b s t ≡ unsigned (b ∷ s)
unfolding unsigned split
first-is b s t e = ap (split b s) (sym e) ∙ by (eqb b 45)
  where
    by : (t : Bool) → ◌≡◌ {A = Bool × List ℕ} (split b s t) (elim t [ true ↦ (true, s) | false ↦ (false, b ∷ s) ])
    by true = refl
    by false = refl

minus_is : (b : ℕ) (s : List ℕ) (t : Bool) → starts_with eqb (b ∷ s) (45 ∷ []) ≡ t → eqb b 45 ≡ t
minus_is b s t e = go (eqb 45 b) refl e
  where
    go : (u : Bool) → eqb 45 b ≡ u → (u && true) ≡ t → eqb b 45 ≡ t
    go true q f = eq-eqb b 45 (sym (eqb-true 45 b q)) ∙ f
    go false q f = ne_eqb b 45 (λ h. eqb-false 45 b q (sym h)) ∙ f

pub decimal-minus : (s : List ℕ) (r : Bool) (d : Maybe ℕ) → r ≡ starts_with eqb s (45 ∷ []) → r ≡ true → decimal_of d ≡ unsigned_of true (take (length s - 1) (drop 1 s)) → decimal_of d ≡ decimal s
unfolding decimal unsigned_of split
decimal-minus [] r d e f h = cc
decimal-minus (b ∷ s) r d e f h = h ∙ rw (tail-is (b ∷ s) 1) refl ∙ ap (λ (u : Bool × List ℕ). unsigned_of u.0 u.1) (first-is b s true (minus_is b s true (sym e ∙ f)))

pub decimal-plus : (s : List ℕ) (r : Bool) (d : Maybe ℕ) → r ≡ starts_with eqb s (45 ∷ []) → r ≡ false → decimal_of d ≡ unsigned_of false s → decimal_of d ≡ decimal s
unfolding decimal unsigned_of unsigned split
decimal-plus [] r d e f h = h
decimal-plus (b ∷ s) r d e f h = h ∙ ap (λ (u : Bool × List ℕ). unsigned_of u.0 u.1) (first-is b s false (minus_is b s false (sym e ∙ f)))

-- the sign put to a number, where 64 bits hold it
module _ (minus : Bool) (n : ℕ) where
  fit_is : (z : ℤ) → z ≡ signed_by minus n → (t : Bool) → (t ≡ true → mag z < 9223372036854775808) → (t ≡ false → mag z < 9223372036854775808 → ⊥) → only_if t z ≡ only_if (ltb (mag (signed_by minus n)) 9223372036854775808) (signed_by minus n)
  fit_is z e true f g = rw (← e, lt-ltb (mag z) 9223372036854775808 (f refl)) refl
  fit_is z e false f g = rw (← e, le-ltb (mag z) 9223372036854775808 (omega (arith, g refl))) refl

  pub no_room : (z : ℤ) (o : Maybe ℤ) → z ≡ signed_by minus n → SomeIff o (SFits w64 z) z → o ≡ None → decimal_of None ≡ only_if (ltb (mag (signed_by minus n)) 9223372036854775808) (signed_by minus n)
  unfolding decimal_of only_if
  no_room z None e h k = fit_is z e false (λ q. cc) (λ q l. h (record { sfits = l }))
  no_room z (Some x) e h k = cc

  pub room : (z x : ℤ) (o : Maybe ℤ) (bits : ℕ) → z ≡ signed_by minus n → SomeIff o (SFits w64 z) z → o ≡ Some x → bits ≡ of_z w64 (to_z w64 (of_z w64 x)) → decimal_of (Some bits) ≡ only_if (ltb (mag (signed_by minus n)) 9223372036854775808) (signed_by minus n)
  unfolding decimal_of only_if
  room z x None bits e h k b = cc
  room z x (Some y) bits e h k b =
      let same : x ≡ z = cc in
      let fits : SFits w64 z = h.0 in
      let back : to_z w64 (of_z w64 z) ≡ z = to_z-of_z fits in
      let bits-are : to_z w64 bits ≡ z = rw (b, same, back, back) refl in
      ap some bits-are ∙ fit_is z e true (λ q. fits.sfits) (λ q. cc)

pub taken : (minus : Bool) (n : ℕ) → minus ≡ true → pos 0 -ℤ pos n ≡ signed_by minus n
unfolding signed_by
taken minus zero e = rw e refl
taken minus (suc n) e = rw (e, lt-ltb 0 (suc n) (omega arith)) (ap negsuc (omega arith))

pub added : (minus : Bool) (n : ℕ) → minus ≡ false → pos (0 + n) ≡ signed_by minus n
unfolding signed_by
added minus n e = rw e (ap pos (omega arith))

-- ---- the scaled number

abbrev number : List ℕ → List ℕ → ℕ
number w f = natural 0 w * 10000 + natural 0 f * 10 ^ (4 - length f)

abbrev tests : Bool → List ℕ → List ℕ → Bool
tests minus w f = digits w and digits f and leb 1 (length w) and leb 1 (length f) and leb (length f) 4 and ltb (mag (signed_by minus (number w f))) 9223372036854775808

as-only : (t : Bool) (z : ℤ) → elim t as (λ t. Option ℤ) [ true ↦ some z | false ↦ none ] ≡ only_if t z
unfolding only_if
as-only true z = refl
as-only false z = refl

scaled-is : (minus : Bool) (w f : List ℕ) → scaled minus w f ≡ only_if (tests minus w f) (signed_by minus (number w f))
unfolding scaled signed_by
scaled-is true w f = as-only (tests true w f) (neg_ℤ (pos (number w f)))
scaled-is false w f = as-only (tests false w f) (pos (number w f))

larger : (minus : Bool) (n : ℕ) → n ≤ mag (signed_by minus n) + 1
unfolding signed_by
larger true zero = omega arith
larger true (suc n) = omega arith
larger false n = omega arith

-- the code's number is the definition's, or both are far too large
capped_test : (minus : Bool) (w f : ℕ) → ltb (mag (signed_by minus (min 1000000000000000 w * 10000 + f))) 9223372036854775808 ≡ ltb (mag (signed_by minus (w * 10000 + f))) 9223372036854775808
capped_test minus w f = go (leb w 1000000000000000) refl
  where
    go : (t : Bool) → leb w 1000000000000000 ≡ t → ltb (mag (signed_by minus (min 1000000000000000 w * 10000 + f))) 9223372036854775808 ≡ ltb (mag (signed_by minus (w * 10000 + f))) 9223372036854775808
    go true e = let l = leb-true w 1000000000000000 e in let q : min 1000000000000000 w ≡ w = omega arith in rw q refl
    go false e =
        let l = leb-false w 1000000000000000 e in
        let x : ltb (mag (signed_by minus (min 1000000000000000 w * 10000 + f))) 9223372036854775808 ≡ false = le-ltb (mag (signed_by minus (min 1000000000000000 w * 10000 + f))) 9223372036854775808 (omega (arith, larger minus (min 1000000000000000 w * 10000 + f))) in
        let y : ltb (mag (signed_by minus (w * 10000 + f))) 9223372036854775808 ≡ false = le-ltb (mag (signed_by minus (w * 10000 + f))) 9223372036854775808 (omega (arith, larger minus (w * 10000 + f))) in
        cc

capped_same : (minus : Bool) (w f : ℕ) → ltb (mag (signed_by minus (min 1000000000000000 w * 10000 + f))) 9223372036854775808 ≡ true → min 1000000000000000 w * 10000 + f ≡ w * 10000 + f
capped_same minus w f e =
    let l = ltb-true (mag (signed_by minus (min 1000000000000000 w * 10000 + f))) 9223372036854775808 e in
    omega (arith, larger minus (min 1000000000000000 w * 10000 + f))

some-there : (l : List ℕ) (v : Bool) → v ≡ eqb (length l) 0 → v ≡ false → leb 1 (length l) ≡ true
some-there l v e f = let h : length l ≡ 0 → ⊥ = eqb-false _ _ (sym e ∙ f) in le-leb 1 (length l) (omega arith)

module _ (minus : Bool) (w f : List ℕ) where
  refused : tests minus w f ≡ false → decimal_of None ≡ scaled minus w f
  unfolding decimal_of only_if
  refused e = sym (scaled-is minus w f ∙ rw e refl)

  pub no_whole : length w ≡ 0 → decimal_of None ≡ scaled minus w f
  no_whole e = refused (skip (digits w) (skip (digits f) (stop _ (lt-leb 1 (length w) (omega arith)))))

  pub no_fraction : length f ≡ 0 → decimal_of None ≡ scaled minus w f
  no_fraction e = refused (skip (digits w) (skip (digits f) (skip (leb 1 (length w)) (stop _ (lt-leb 1 (length f) (omega arith))))))

  pub long_fraction : 4 < length f → decimal_of None ≡ scaled minus w f
  long_fraction e = refused (skip (digits w) (skip (digits f) (skip (leb 1 (length w)) (skip (leb 1 (length f)) (stop _ (lt-leb (length f) 4 e))))))

  pub no-digits : (r : Bool) → r ≡ digits w → not r ≡ true → decimal_of None ≡ scaled minus w f
  no-digits r e q = refused (stop _ (sym e ∙ not-true r q))

  pub no-digits-after : (r : Bool) → r ≡ digits f → not r ≡ true → decimal_of None ≡ scaled minus w f
  no-digits-after r e q = refused (skip (digits w) (stop _ (sym e ∙ not-true r q)))

  -- the last test, on the code's numbers
  module _ (a b : ℕ) (ea : a ≡ min 1000000000000000 (natural 0 w)) (eb : b ≡ natural 0 f * 10 ^ (4 - length f)) where
    test_is : ltb (mag (signed_by minus (a * 10000 + b))) 9223372036854775808 ≡ ltb (mag (signed_by minus (number w f))) 9223372036854775808
    test_is = rw (ea, eb) (capped_test minus (natural 0 w) (natural 0 f * 10 ^ (4 - length f)))

    pub reads : (r : Maybe ℕ) (p q : Bool) → (v x : Bool) → v ≡ eqb (length w) 0 → v ≡ false → x ≡ eqb (length f) 0 → x ≡ false → length f ≤ 4 → p ≡ digits w → not p ≡ false → q ≡ digits f → not q ≡ false → decimal_of r ≡ only_if (ltb (mag (signed_by minus (a * 10000 + b))) 9223372036854775808) (signed_by minus (a * 10000 + b)) → decimal_of r ≡ scaled minus w f
    unfolding only_if
    reads r p q v x ev nv ex nx l ep np eq nq e = e ∙ go (ltb (mag (signed_by minus (a * 10000 + b))) 9223372036854775808) refl ∙ sym (scaled-is minus w f)
      where
        all : (t : Bool) → ltb (mag (signed_by minus (a * 10000 + b))) 9223372036854775808 ≡ t → tests minus w f ≡ t
        all t e = after (sym ep ∙ not-false p np) ∙ after (sym eq ∙ not-false q nq) ∙ after (some-there w v ev nv) ∙ after (some-there f x ex nx) ∙ after (le-leb (length f) 4 l) ∙ sym test_is ∙ e

        go : (t : Bool) → ltb (mag (signed_by minus (a * 10000 + b))) 9223372036854775808 ≡ t → ◌≡◌ {A = Option ℤ} (only_if t (signed_by minus (a * 10000 + b))) (only_if (tests minus w f) (signed_by minus (number w f)))
        go true h = rw (all true h) (ap (λ (n : ℕ). some (signed_by minus n)) (rw (ea, eb) (capped_same minus (natural 0 w) (natural 0 f * 10 ^ (4 - length f)) (rw (ea, eb) at h))))
        go false h = rw (all false h) refl

-- ---- two decimals

module _ (s : List ℕ) (m n : ℕ) (x y : Maybe ℕ) (tx ty : List ℕ) (ex : tx ≡ text s m) (ey : ty ≡ text s n) (dx : decimal_of x ≡ decimal tx) (dy : decimal_of y ≡ decimal ty) where
  pub decimals_both : (p q : ℕ) → Fits w64 p → Fits w64 q → x ≡ Some p → y ≡ Some q → eqb p q ≡ same_list (decimal_key (case_of s) m) (decimal_key (case_of s) n)
  unfolding same_list ◌and◌
  decimals_both p q hp hq ep eq =
      sym (rw (key-some s m x tx ex dx p ep, key-some s n y ty ey dy q eq, of_z-to_z {w = w64} {n = p} hp, of_z-to_z {w = w64} {n = q} hq) (and-true (eqb p q)))

  pub decimals_left : (p : ℕ) → x ≡ Some p → y ≡ None → false ≡ same_list (decimal_key (case_of s) m) (decimal_key (case_of s) n)
  unfolding same_list ◌and◌
  decimals_left p ep e = sym (rw (key-some s m x tx ex dx p ep, key-none s n y ty ey dy e) refl)

module _ (s : List ℕ) (m n : ℕ) (x : Maybe ℕ) (tx : List ℕ) (ex : tx ≡ text s m) (dx : decimal_of x ≡ decimal tx) where
  pub decimals_text : (m ≡ n → ⊥) → x ≡ None → false ≡ same_list (decimal_key (case_of s) m) (decimal_key (case_of s) n)
  unfolding decimal_key case_of same_list ◌and◌
  decimals_text ne e = sym (rw (key-none s m x tx ex dx e) (go (decimal (text s n))))
    where
      go : (o : Option ℤ) → same_list (1 ∷ m ∷ []) (elim o as (λ d. List ℕ) [ none ↦ 1 ∷ n ∷ [] | some z ↦ 0 ∷ of_z w64 z ∷ [] ]) ≡ false
      go none = rw (ne_eqb m n ne) refl
      go (some z) = refl

pub decimals_same : (s : List ℕ) (m n : ℕ) → m ≡ n → true ≡ same_list (decimal_key (case_of s) m) (decimal_key (case_of s) n)
decimals_same s m n e = sym (list_same (decimal_key (case_of s) m) (decimal_key (case_of s) n) (ap (decimal_key (case_of s)) e))
