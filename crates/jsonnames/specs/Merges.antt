-- Two runs of names that follow one another, and the run that they become
use Rattle.std.specs.declared.cmp.Ordering.TheVariants.{Less}
use Rattle.std.specs.Prelude.{◌≡◌, Bool, true, false, List, ℕ, ◌+◌, ◌-◌, ◌<◌, ◌≤◌, length, get_or}
use Rattle.jsonread.specs.Spelling.{order_of}
use Rattle.jsonnames.specs.Sorted.{Spells, Rises, Differ}

-- a cell has the place p
pub record Has (names : List ℕ) (first end p : ℕ) : Type 0 where
  pub cell : ℕ
  pub from : first ≤ cell
  pub below : cell < end
  pub is : get_or names cell 0 ≡ p

-- two runs with names that differ
pub record Pair (line names : List ℕ) (low mid high : ℕ) : Type 0 where
  pub lower : Rises line names low mid
  pub upper : Rises line names mid high
  pub differ : Differ line names low high

-- and the upper one stands behind them too
pub record Aside (line names : List ℕ) (low mid high : ℕ) : Type 0 where
  pub pair : Pair line names low mid high
  pub room : high + (high - mid) ≤ length names
  pub copied : (k : ℕ) → mid ≤ k → k < high → get_or names (high + (k - mid)) 0 ≡ get_or names k 0

pub record CopyTold (mid high : ℕ) (names after : List ℕ) : Type 0 where
  pub long : length after ≡ length names
  pub below : (k : ℕ) → k < high → get_or after k 0 ≡ get_or names k 0
  pub copied : (k : ℕ) → mid ≤ k → k < high → get_or after (high + (k - mid)) 0 ≡ get_or names k 0

-- two places in the line
pub record LaterDue (line : List ℕ) (p at : ℕ) : Type 0 where
  pub other : p ≤ length line
  pub place : at ≤ length line

-- the second name is after the first, or before it where they differ
pub record LaterTold (line : List ℕ) (p at : ℕ) (r : Bool) : Type 0 where
  pub more : r ≡ true → (m n : List ℕ) → Spells line p m → Spells line at n → order_of m n ≡ Less
  pub less : r ≡ false → (m n : List ℕ) → Spells line p m → Spells line at n → (m ≡ n → ⊥) → order_of n m ≡ Less

pub record OrderedTold (line names : List ℕ) (low high : ℕ) (r : Bool) : Type 0 where
  pub rises : r ≡ true → Rises line names low high

-- one run of the same places; cells below it are as they were
pub record Merged (line names after : List ℕ) (low high : ℕ) : Type 0 where
  pub long : length after ≡ length names
  pub rises : Rises line after low high
  pub below : (k : ℕ) → k < low → get_or after k 0 ≡ get_or names k 0
  pub kept : (k : ℕ) → low ≤ k → k < high → Has after low high (get_or names k 0)
  pub old : (k : ℕ) → low ≤ k → k < high → Has names low high (get_or after k 0)
