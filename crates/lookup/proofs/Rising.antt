-- Where each comes after the one before it, each comes after all before it
use mathlib.Core.Path.{◌≡◌}
use mathlib.Core.Bool.{Bool, true}
use Prim.Native.Nat.{ℕ, zero, suc, ◌+◌, ◌-◌, ◌<◌}
use native.Mathlib.Omega.{arith}
use lib.Dec.{ltb}
use borrow.Author.Tests.{lt-ltb, ltb-true}
use Rattle.meaning.specs.Tests.{rises}

module _ (before : ℕ → ℕ → Bool) (onward : (i j k : ℕ) → before i j ≡ true → before j k ≡ true → before i k ≡ true) (n : ℕ) (up : (i : ℕ) → i < n → rises before i ≡ true) where
  next : (i : ℕ) → suc i < n → before i (suc i) ≡ true
  unfolding rises
  next i h = up (suc i) h

  later : (i k : ℕ) → suc (i + k) < n → before i (suc (i + k)) ≡ true
  later i zero h = let z : i + 0 ≡ i = omega arith in rw z (next i (omega arith))
  later i (suc k) h =
      let z : i + suc k ≡ suc (i + k) = omega arith in
      rw z (onward i (suc (i + k)) (suc (suc (i + k))) (later i k (omega arith)) (next (suc (i + k)) (omega arith)))

  pub rising : (i j : ℕ) → i < j → j < n → before i j ≡ true
  rising i j h l = let z : suc (i + (j - suc i)) ≡ j = omega arith in rw z at (later i (j - suc i) (omega arith))

pub numbers-rise : (f : ℕ → ℕ) (n : ℕ) → ((i : ℕ) → i < n → rises (λ i j. ltb (f i) (f j)) i ≡ true) → (i j : ℕ) → i < j → j < n → f i < f j
numbers-rise f n up i j h l =
    ltb-true (f i) (f j) (rising (λ i j. ltb (f i) (f j)) onward n up i j h l)
  where
    onward : (i j k : ℕ) → ltb (f i) (f j) ≡ true → ltb (f j) (f k) ≡ true → ltb (f i) (f k) ≡ true
    onward i j k p q = lt-ltb (f i) (f k) (omega (arith, ltb-true (f i) (f j) p, ltb-true (f j) (f k) q))
