-- Tests of words, as the code made them of what it read
use mathlib.Core.Path.{◌≡◌, refl, sym, ◌∙◌}
use mathlib.Core.Bool.{Bool}
use Prim.Native.Nat.{ℕ, ◌+◌, ◌<◌}
use native.Mathlib.Omega.{arith}
use lib.Dec.{eqb}
use borrow.Author.Tests.{eq-eqb}
use Rattle.laws.specs.Tests.{Passing, all_more}

pub word-is : {w d : ℕ} (m : ℕ) → w ≡ d → eqb w m ≡ eqb d m
word-is m e = rw e refl

-- of a loop that stops at a word other than m
pub word-passes : {test : ℕ → Bool} {n i w : ℕ} (m : ℕ) → Passing test n i → i < n → w ≡ m → eqb w m ≡ test i → Passing test n (i + 1)
word-passes {test} {i = i} {w = w} m p lt e q = record { low = omega arith; is = all_more test i p.is (sym q ∙ eq-eqb w m e) }
