-- The first cells of a list, written one after the other
use mathlib.Core.Path.{◌≡◌, refl}
use mathlib.Core.List.{List, [], ◌∷◌, ◌++◌}
use Prim.Native.Nat.{ℕ, ◌≤◌, ◌<◌}
use native.Mathlib.Omega.{arith}
use lib.ListN.{length, drop, set, length-set}

pub second : (a : ℕ) (s : List ℕ) → 4 ≤ length s → 1 < length (set s 0 a)
second a s h = omega (arith, length-set s 0 a, h)

pub third : (a b : ℕ) (s : List ℕ) → 4 ≤ length s → 2 < length (set (set s 0 a) 1 b)
third a b s h = omega (arith, length-set (set s 0 a) 1 b, length-set s 0 a, h)

pub fourth : (a b c : ℕ) (s : List ℕ) → 4 ≤ length s → 3 < length (set (set (set s 0 a) 1 b) 2 c)
fourth a b c s h = omega (arith, length-set (set (set s 0 a) 1 b) 2 c, length-set (set s 0 a) 1 b, length-set s 0 a, h)

-- of five, too
pub of_five : (s : List ℕ) → 5 ≤ length s → 4 ≤ length s
of_five s h = omega arith

pub four : (a b c d : ℕ) (s : List ℕ) → 4 ≤ length s → set (set (set (set s 0 a) 1 b) 2 c) 3 d ≡ (a ∷ b ∷ c ∷ d ∷ []) ++ drop 4 s
four a b c d [] h = absurd (omega (arith, h))
four a b c d (w ∷ []) h = absurd (omega (arith, h))
four a b c d (w ∷ x ∷ []) h = absurd (omega (arith, h))
four a b c d (w ∷ x ∷ y ∷ []) h = absurd (omega (arith, h))
four a b c d (w ∷ x ∷ y ∷ z ∷ s) h = refl

pub five : (a b c d e : ℕ) (s : List ℕ) → 5 ≤ length s → set (set (set (set (set s 0 a) 1 b) 2 c) 3 d) 4 e ≡ (a ∷ b ∷ c ∷ d ∷ e ∷ []) ++ drop 5 s
five a b c d e [] h = absurd (omega (arith, h))
five a b c d e (v ∷ []) h = absurd (omega (arith, h))
five a b c d e (v ∷ w ∷ []) h = absurd (omega (arith, h))
five a b c d e (v ∷ w ∷ x ∷ []) h = absurd (omega (arith, h))
five a b c d e (v ∷ w ∷ x ∷ y ∷ []) h = absurd (omega (arith, h))
five a b c d e (v ∷ w ∷ x ∷ y ∷ z ∷ s) h = refl
