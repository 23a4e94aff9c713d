-- Three ways to lie to a window: inside is 01's test, later is the order of the times, and a negative span has no inside; and each by the branch that a program takes
use Rattle.std.specs.Prelude.{◌≡◌, refl, Bool, true, false, cond, ltb, ℤ, pos, negsuc, ◌-ℤ◌}
use Rattle.std.proofs.Math.Path.{sym, ap, ap₂}
use Rattle.std.proofs.Common.{◌∙◌}
use Prim.Native.Nat.{ℕ, zero, suc, ◌+◌, ◌-◌, ◌≤◌, ◌<◌, min}
use native.Mathlib.Omega.{arith}
use Rattle.std.proofs.Math.Dec.{leb, leb-suc-suc}
use Rattle.std.proofs.Math.IntN.{sub_ℕ}
use Rattle.std.specs.Int.Signed.{lt_z, le_z}
use mir.Val.{to_z}
use mir.Syntax.{w64}
use borrow.Author.Tests.{lt-ltb, le-ltb, le-leb, lt-leb, ltb-true}
use Rattle.meaning.specs.Tests.{◌and◌, choose}
use Rattle.meaning.specs.Number.{clamp, lowest, highest, calculate, in_window, window}
use Rattle.laws.specs.Number.{bias, bias-minus, bias_lt, bias-le, clamp-fits, to_z_fits}
use Rattle.meaning.specs.declared.ArithOp.TheVariants.{Sub}
use Rattle.meaning.specs.declared.Window.{Window}
use Rattle.meaning.specs.declared.Window.TheVariants.{Inside, TooOld, Later}

unfoldable pub is_inside : Window → Bool
is_inside Inside = true
is_inside TooOld = false
is_inside Later = false

unfoldable pub is_later : Window → Bool
is_later Inside = false
is_later TooOld = false
is_later Later = true

-- ---- inside is 01's test

pub inside_is : (span from to : ℤ) → is_inside (window span from to) ≡ in_window span from to
unfolding window in_window is_inside choose ◌and◌
inside_is span from to = by_difference (calculate Sub from to)
  where
    by_span : (b : Bool) → is_inside (choose b Inside TooOld) ≡ b
    by_span true = refl
    by_span false = refl

    by_difference : (d : ℤ) → is_inside (choose (lt_z d (pos 0)) Later (choose (le_z d span) Inside TooOld)) ≡ (le_z (pos 0) d and le_z d span)
    by_difference (pos n) = rw (le-ltb n 0 (omega arith), le-leb 0 n (omega arith)) (by_span (le_z (pos n) span))
    by_difference (negsuc n) = refl

-- ---- later is the order, whether the difference saturates or not

clamp-sign : (z : ℤ) → lt_z (clamp z) (pos 0) ≡ lt_z z (pos 0)
unfolding clamp lowest highest
clamp-sign (pos n) = go (ltb 9223372036854775807 n)
  where
    go : (b : Bool) → lt_z (elim b as (λ b. ℤ) [ true ↦ pos 9223372036854775807 | false ↦ pos n ]) (pos 0) ≡ ltb n 0
    go true = sym (le-ltb n 0 (omega arith))
    go false = refl
clamp-sign (negsuc n) = go (ltb 9223372036854775807 n)
  where
    go : (b : Bool) → lt_z (elim b as (λ b. ℤ) [ true ↦ negsuc 9223372036854775807 | false ↦ negsuc n ]) (pos 0) ≡ true
    go true = refl
    go false = refl

sub-sign : (x y : ℕ) → lt_z (sub_ℕ x y) (pos 0) ≡ ltb x y
sub-sign x y = go (ltb x y)
  where
    go : (b : Bool) → lt_z (cond b (negsuc (y - suc x)) (pos (x - y))) (pos 0) ≡ b
    go true = refl
    go false = le-ltb (x - y) 0 (omega arith)

minus-sign : (a b : ℤ) → lt_z (a -ℤ b) (pos 0) ≡ lt_z a b
minus-sign (pos m) (pos zero) = ap (λ (n : ℕ). ltb n 0) (plus-zero m)
  where
    plus-zero : (n : ℕ) → n + 0 ≡ n
    plus-zero n = omega arith
minus-sign (pos m) (pos (suc n)) = sub-sign m (suc n)
minus-sign (pos m) (negsuc n) = le-ltb (m + suc n) 0 (omega arith)
minus-sign (negsuc m) (pos zero) = sub-sign 0 (suc m) ∙ lt-ltb 0 (suc m) (omega arith)
minus-sign (negsuc m) (pos (suc n)) = refl
minus-sign (negsuc m) (negsuc n) = sub-sign (suc n) (suc m) ∙ leb-suc-suc (suc n) m

difference_sign : (a b : ℤ) → lt_z (calculate Sub a b) (pos 0) ≡ lt_z a b
unfolding calculate
difference_sign a b = clamp-sign (a -ℤ b) ∙ minus-sign a b

pub later-is : (span from to : ℤ) → is_later (window span from to) ≡ lt_z from to
unfolding window is_later choose
later-is span from to = by_order (lt_z (calculate Sub from to) (pos 0)) (le_z (calculate Sub from to) span) ∙ difference_sign from to
  where
    by_order : (b c : Bool) → is_later (choose b Later (choose c Inside TooOld)) ≡ b
    by_order true c = refl
    by_order false true = refl
    by_order false false = refl

-- ---- under a negative span a time is later, or too old

pub never-inside : (span from to : ℤ) → lt_z span (pos 0) ≡ true → window span from to ≡ choose (lt_z from to) Later TooOld
unfolding window choose
never-inside span from to n = by_difference (calculate Sub from to) span n ∙ ap (λ (b : Bool). choose b Later TooOld) (difference_sign from to)
  where
    by_difference : (d span : ℤ) → lt_z span (pos 0) ≡ true → choose (lt_z d (pos 0)) Later (choose (le_z d span) Inside TooOld) ≡ choose (lt_z d (pos 0)) Later TooOld
    by_difference (pos n) (pos k) h = absurd (omega (arith, ltb-true k 0 h))
    by_difference (pos n) (negsuc k) h = refl
    by_difference (negsuc n) span h = refl

-- ---- by the branch that a program takes, at biased span s and times a and b, and the distance d of their difference

module _ (span from to : ℕ) (s a b : ℕ) (es : s ≡ bias (to_z w64 span)) (ea : a ≡ bias (to_z w64 from)) (eb : b ≡ bias (to_z w64 to))
    (hs : span < 18446744073709551616) (ha : from < 18446744073709551616) (hb : to < 18446744073709551616) where
  order_is : lt_z (calculate Sub (to_z w64 from) (to_z w64 to)) (pos 0) ≡ ltb a b
  order_is = rw (ea, eb) (difference_sign (to_z w64 from) (to_z w64 to) ∙ bias_lt (to_z w64 from) (to_z w64 to) (to_z_fits from ha) (to_z_fits to hb))

  length-is : le_z (calculate Sub (to_z w64 from) (to_z w64 to)) (to_z w64 span) ≡ leb (min 18446744073709551615 (a + 9223372036854775808 - b)) s
  unfolding calculate
  length-is =
      rw (es, ea, eb) (bias-le (calculate Sub (to_z w64 from) (to_z w64 to)) (to_z w64 span) (clamp-fits (to_z w64 from -ℤ to_z w64 to)) (to_z_fits span hs)
      ∙ ap (λ (d : ℕ). leb d (bias (to_z w64 span))) (bias-minus (to_z w64 from) (to_z w64 to) (to_z_fits from ha) (to_z_fits to hb)))

  window-is : window (to_z w64 span) (to_z w64 from) (to_z w64 to) ≡ choose (ltb a b) Later (choose (leb (min 18446744073709551615 (a + 9223372036854775808 - b)) s) Inside TooOld)
  unfolding window
  window-is = ap₂ (λ (p q : Bool). choose p Later (choose q Inside TooOld)) order_is length-is

  pub window-later : a < b → Later ≡ window (to_z w64 span) (to_z w64 from) (to_z w64 to)
  unfolding choose
  window-later h = sym (window-is ∙ simp (lt-ltb a b h))

  module _ (h : b ≤ a) {d : ℕ} (ed : d ≡ min 18446744073709551615 (a - b + 9223372036854775808)) where
    pub window-inside : d ≤ s → Inside ≡ window (to_z w64 span) (to_z w64 from) (to_z w64 to)
    unfolding choose
    window-inside k =
        let e : min 18446744073709551615 (a + 9223372036854775808 - b) ≤ s = omega arith in
        sym (window-is ∙ simp (le-ltb a b h, le-leb _ s e))

    pub window-old : s < d → TooOld ≡ window (to_z w64 span) (to_z w64 from) (to_z w64 to)
    unfolding choose
    window-old k =
        let e : s < min 18446744073709551615 (a + 9223372036854775808 - b) = omega arith in
        sym (window-is ∙ simp (le-ltb a b h, lt-leb _ s e))
