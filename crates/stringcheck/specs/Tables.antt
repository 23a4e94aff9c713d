-- Laws of local tables that are filled from the front
use Rattle.std.specs.Prelude.{◌≡◌, refl, List, ℕ, zero, suc, ◌+◌, ◌<◌, ◌≤◌, length, get_or, set, replicate}
use Rattle.std.proofs.Common.{◌∙◌, arith, length-set}
use Rattle.std.proofs.lemmas.List.{length-replicate}
use Rattle.laws.specs.Tests.{Filled, filled_more, filled_none}

-- the first k entries of n, in a table of a size
pub record Filling {A : Type 0} (other : A) (f : ℕ → A) (size n : ℕ) (table : List A) (k : ℕ) : Type 0 where
  pub low : k ≤ n
  pub few : n ≤ size
  pub long : length table ≡ size
  pub front : Filled other f table k

pub filling_none : {A : Type 0} {other : A} {f : ℕ → A} {size n : ℕ} (x : A) → n ≤ size → Filling other f size n (replicate size x) 0
filling_none {size = size} x h = record { low = omega arith; few = h; long = length-replicate size x; front = filled_none }

module _ {A : Type 0} {other : A} {f : ℕ → A} {size n : ℕ} {table : List A} {k : ℕ} (g : Filling other f size n table k) where
  -- the code has an entry's place as another number
  pub filling_more : {at : ℕ} (x : A) → k < n → at ≡ k → x ≡ f k → Filling other f size n (set table at x) (k + 1)
  filling_more {at} x lt q e =
      record {
        low = omega arith;
        few = g.few;
        long = length-set table at x ∙ g.long;
        front = rw q (filled_more x (omega (arith, g.few, g.long)) g.front e);
      }

  pub filling_all : (m : ℕ) → n ≤ k → n ≡ m → Filled other f table m
  filling_all m h e = let q : k ≡ m = omega (arith, g.low) in rw q at g.front

-- a new table has the same everywhere
pub replicate-same : {A : Type 0} (n i : ℕ) (x : A) → get_or (replicate n x) i x ≡ x
replicate-same zero i x = refl
replicate-same (suc n) zero x = refl
replicate-same (suc n) (suc i) x = replicate-same n i x
