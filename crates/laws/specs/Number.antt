-- Signed 64-bit numbers by their distance from the least: order, difference and sum are then ℕ's, which `omega` reads
use Rattle.std.specs.Prelude.{◌≡◌, refl, Bool, true, false, cond, ℕ, zero, suc, ◌+◌, ◌-◌, ◌≤◌, ◌<◌, min, ltb, leb, ℤ, pos, negsuc, ◌+ℤ◌}
use Rattle.std.proofs.Common.{sym, ◌∙◌, ap, arith, lit<, lt-ltb, le-ltb, le-leb, ltb-true, ltb-false, leb-true, leb-false}
use Rattle.std.proofs.Math.IntN.{sub_ℕ}
use Rattle.std.specs.Int.Signed.{mag, lt_z, le_z}
use mir.Val.{to_z, sel}
use Rattle.std.specs.Int.{w64}
use Rattle.std.proofs.lemmas.Bool.{lt-leb}
use Rattle.meaning.specs.Number.{clamp, lowest, highest, calculate}
use Rattle.meaning.specs.declared.ArithOp.TheVariants.{Add, Sub}

-- how far above the least; past either end, the end
unfoldable pub bias : ℤ → ℕ
bias (pos n) = min 18446744073709551615 (9223372036854775808 + n)
bias (negsuc n) = 9223372036854775808 - suc n

pub bias-clamp : (z : ℤ) → bias (clamp z) ≡ bias z
unfolding bias clamp lowest highest
bias-clamp (pos n) = go (ltb 9223372036854775807 n) refl
  where
    go : (b : Bool) → ltb 9223372036854775807 n ≡ b → bias (elim b as (λ b. ℤ) [ true ↦ pos 9223372036854775807 | false ↦ pos n ]) ≡ bias (pos n)
    go true e = omega (arith, ltb-true 9223372036854775807 n e)
    go false e = refl
bias-clamp (negsuc n) = go (ltb 9223372036854775807 n) refl
  where
    go : (b : Bool) → ltb 9223372036854775807 n ≡ b → bias (elim b as (λ b. ℤ) [ true ↦ negsuc 9223372036854775807 | false ↦ negsuc n ]) ≡ bias (negsuc n)
    go true e = omega (arith, ltb-true 9223372036854775807 n e)
    go false e = refl

pub bias-sub : (x y : ℕ) → bias (sub_ℕ x y) ≡ min 18446744073709551615 (9223372036854775808 + x - y)
unfolding bias
bias-sub x y = go (ltb x y) refl
  where
    go : (b : Bool) → ltb x y ≡ b → bias (cond b (negsuc (y - suc x)) (pos (x - y))) ≡ min 18446744073709551615 (9223372036854775808 + x - y)
    go true e = omega (arith, ltb-true x y e)
    go false e = omega (arith, ltb-false x y e)

-- a number of 64 bits
abbrev pub Fits : ℤ → Type 0
Fits z = mag z < 9223372036854775808

pub bias-minus : (a b : ℤ) → Fits a → Fits b → bias (calculate Sub a b) ≡ min 18446744073709551615 (bias a + 9223372036854775808 - bias b)
unfolding calculate bias
bias-minus (pos m) (pos zero) ha hb = bias-clamp _ ∙ omega arith
bias-minus (pos m) (pos (suc n)) ha hb = bias-clamp _ ∙ bias-sub m (suc n) ∙ omega arith
bias-minus (pos m) (negsuc n) ha hb = bias-clamp _ ∙ omega arith
bias-minus (negsuc m) (pos zero) ha hb = bias-clamp _ ∙ bias-sub 0 (suc m) ∙ omega arith
bias-minus (negsuc m) (pos (suc n)) ha hb = bias-clamp _ ∙ omega arith
bias-minus (negsuc m) (negsuc n) ha hb = bias-clamp _ ∙ bias-sub (suc n) (suc m) ∙ omega arith

pub bias-plus : (a b : ℤ) → Fits a → Fits b → bias (calculate Add a b) ≡ min 18446744073709551615 (bias a + bias b - 9223372036854775808)
unfolding calculate bias
bias-plus (pos m) (pos n) ha hb = bias-clamp _ ∙ omega arith
bias-plus (pos m) (negsuc n) ha hb = bias-clamp _ ∙ bias-sub m (suc n) ∙ omega arith
bias-plus (negsuc m) (pos n) ha hb = bias-clamp _ ∙ bias-sub n (suc m) ∙ omega arith
bias-plus (negsuc m) (negsuc n) ha hb = bias-clamp _ ∙ omega arith

-- the order
ltb_iff : (a b x y : ℕ) → (a < b → x < y) → (b ≤ a → y ≤ x) → ltb a b ≡ ltb x y
ltb_iff a b x y f g = go (ltb a b) refl
  where
    go : (t : Bool) → ltb a b ≡ t → t ≡ ltb x y
    go true e = sym (lt-ltb x y (f (ltb-true a b e)))
    go false e = sym (le-ltb x y (g (ltb-false a b e)))

pub bias_lt : (a b : ℤ) → Fits a → Fits b → lt_z a b ≡ ltb (bias a) (bias b)
unfolding bias
bias_lt (pos m) (pos n) ha hb = ltb_iff m n (bias (pos m)) (bias (pos n)) (λ h. omega arith) (λ h. omega arith)
bias_lt (pos m) (negsuc n) ha hb = sym (le-ltb (bias (pos m)) (bias (negsuc n)) (omega arith))
bias_lt (negsuc m) (pos n) ha hb = sym (lt-ltb (bias (negsuc m)) (bias (pos n)) (omega arith))
bias_lt (negsuc m) (negsuc n) ha hb = ltb_iff n m (bias (negsuc m)) (bias (negsuc n)) (λ h. omega arith) (λ h. omega arith)

leb_iff : (a b x y : ℕ) → (a ≤ b → x ≤ y) → (b < a → y < x) → leb a b ≡ leb x y
leb_iff a b x y f g = go (leb a b) refl
  where
    go : (t : Bool) → leb a b ≡ t → t ≡ leb x y
    go true e = sym (le-leb x y (f (leb-true a b e)))
    go false e = sym (lt-leb x y (g (leb-false a b e)))

pub bias-le : (a b : ℤ) → Fits a → Fits b → le_z a b ≡ leb (bias a) (bias b)
unfolding bias
bias-le (pos m) (pos n) ha hb = leb_iff m n (bias (pos m)) (bias (pos n)) (λ h. omega arith) (λ h. omega arith)
bias-le (pos m) (negsuc n) ha hb = sym (lt-leb (bias (pos m)) (bias (negsuc n)) (omega arith))
bias-le (negsuc m) (pos n) ha hb = sym (le-leb (bias (negsuc m)) (bias (pos n)) (omega arith))
bias-le (negsuc m) (negsuc n) ha hb = leb_iff n m (bias (negsuc m)) (bias (negsuc n)) (λ h. omega arith) (λ h. omega arith)

pub clamp-fits : (z : ℤ) → Fits (clamp z)
unfolding clamp lowest highest
clamp-fits (pos n) = go (ltb 9223372036854775807 n) refl
  where
    go : (b : Bool) → ltb 9223372036854775807 n ≡ b → Fits (elim b as (λ b. ℤ) [ true ↦ pos 9223372036854775807 | false ↦ pos n ])
    go true e = lit< tt
    go false e = omega (arith, ltb-false 9223372036854775807 n e)
clamp-fits (negsuc n) = go (ltb 9223372036854775807 n) refl
  where
    go : (b : Bool) → ltb 9223372036854775807 n ≡ b → Fits (elim b as (λ b. ℤ) [ true ↦ negsuc 9223372036854775807 | false ↦ negsuc n ])
    go true e = lit< tt
    go false e = omega (arith, ltb-false 9223372036854775807 n e)

-- 64 bits read as signed
pub to_z_fits : (u : ℕ) → u < 18446744073709551616 → Fits (to_z w64 u)
to_z_fits u h = go (ltb u 9223372036854775808) refl
  where
    go : (b : Bool) → ltb u 9223372036854775808 ≡ b → Fits (sel b (pos u) (negsuc (18446744073709551616 - suc u)))
    go true e = ltb-true u 9223372036854775808 e
    go false e = omega (arith, ltb-false u 9223372036854775808 e)

pub bias-low : (u : ℕ) → u < 9223372036854775808 → bias (to_z w64 u) ≡ u + 9223372036854775808
unfolding bias
bias-low u h = simp (lt-ltb u 9223372036854775808 h) (omega arith)

pub bias-high : (u : ℕ) → 9223372036854775808 ≤ u → u < 18446744073709551616 → bias (to_z w64 u) ≡ u - 9223372036854775808
unfolding bias
bias-high u h k = simp (le-ltb u 9223372036854775808 h) (omega arith)

-- numbers of 64 bits go by their distance
pub bias_inj : (a b : ℤ) → Fits a → Fits b → bias a ≡ bias b → a ≡ b
unfolding bias
bias_inj (pos m) (pos n) ha hb e = let q : m ≡ n = omega arith in ap pos q
bias_inj (pos m) (negsuc n) ha hb e = absurd (omega arith)
bias_inj (negsuc m) (pos n) ha hb e = absurd (omega arith)
bias_inj (negsuc m) (negsuc n) ha hb e = let q : m ≡ n = omega arith in ap negsuc q

-- ---- differences of naturals: two are equal where their cross sums are, and they add up by parts
pub sub_eq : (a b c d : ℕ) → a + d ≡ c + b → sub_ℕ a b ≡ sub_ℕ c d
sub_eq a b c d e = go (ltb a b) (ltb c d) refl refl
  where
    go : (p q : Bool) → ltb a b ≡ p → ltb c d ≡ q → cond p (negsuc (b - suc a)) (pos (a - b)) ≡ cond q (negsuc (d - suc c)) (pos (c - d))
    go true true x y = let z : b - suc a ≡ d - suc c = omega (arith, ltb-true a b x, ltb-true c d y) in ap negsuc z
    go true false x y = absurd (omega (arith, ltb-true a b x, ltb-false c d y))
    go false true x y = absurd (omega (arith, ltb-false a b x, ltb-true c d y))
    go false false x y = let z : a - b ≡ c - d = omega (arith, ltb-false a b x, ltb-false c d y) in ap pos z

pub sub-pos : (n : ℕ) → sub_ℕ n 0 ≡ pos n
sub-pos n = simp (le-ltb n 0 (omega arith)) (ap pos (z n))
  where
    z : (n : ℕ) → n - 0 ≡ n
    z n = omega arith

pub sub_neg : (n : ℕ) → sub_ℕ 0 (suc n) ≡ negsuc n
sub_neg n = simp (lt-ltb 0 (suc n) (omega arith)) (ap negsuc (z n))
  where
    z : (n : ℕ) → suc n - 1 ≡ n
    z n = omega arith

pub sub-add : (a b c d : ℕ) → sub_ℕ a b +ℤ sub_ℕ c d ≡ sub_ℕ (a + c) (b + d)
sub-add a b c d = go (ltb a b) (ltb c d) refl refl
  where
    go : (p q : Bool) → ltb a b ≡ p → ltb c d ≡ q → cond p (negsuc (b - suc a)) (pos (a - b)) +ℤ cond q (negsuc (d - suc c)) (pos (c - d)) ≡ sub_ℕ (a + c) (b + d)
    go true true x y = sym (sub_neg (suc (b - suc a + (d - suc c)))) ∙ sub_eq 0 (suc (suc (b - suc a + (d - suc c)))) (a + c) (b + d) (omega (arith, ltb-true a b x, ltb-true c d y))
    go true false x y = sub_eq (c - d) (suc (b - suc a)) (a + c) (b + d) (omega (arith, ltb-true a b x, ltb-false c d y))
    go false true x y = sub_eq (a - b) (suc (d - suc c)) (a + c) (b + d) (omega (arith, ltb-false a b x, ltb-true c d y))
    go false false x y = sym (sub-pos _) ∙ sub_eq (a - b + (c - d)) 0 (a + c) (b + d) (omega (arith, ltb-false a b x, ltb-false c d y))
