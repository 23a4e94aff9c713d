-- Tables filled from the front: one entry more, and all of them
use Rattle.std.specs.Prelude.{◌≡◌, List, ℕ, ◌+◌, ◌<◌, ◌≤◌, length, set}
use Rattle.std.proofs.Common.{arith}
use Rattle.laws.specs.Tests.{Filled, filled_more}

-- one more entry, where the code has its place as another number
pub fill-at : {A : Type 0} {other : A} {f : ℕ → A} {table : List A} {k at : ℕ} (x : A) → at ≡ k → at < length table → Filled other f table k → x ≡ f k → Filled other f (set table at x) (k + 1)
fill-at x q h f e = rw q (filled_more x (rw q at h) f e)

pub filled-all : {A : Type 0} {other : A} {f : ℕ → A} {table : List A} {k n : ℕ} (m : ℕ) → n ≡ m → n ≤ k → k ≤ n → Filled other f table k → Filled other f table m
filled-all {k = k} m e h l f = let q : k ≡ m = omega arith in rw q at f
