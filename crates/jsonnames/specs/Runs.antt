-- A name looked for in all runs, and kept
use Rattle.std.specs.Prelude.{◌≡◌, List, ℕ, ◌+◌, ◌-◌, ◌/◌, ◌%◌, ◌<◌, ◌≤◌, length, get_or, Option, Some, None, Result, Ok, Err}
use Rattle.jsonnames.specs.Sorted.{Spells, Named, Rises, Runs, Differ, edge, Sorted, Holds, Lacks}
use Rattle.jsonnames.specs.Merges.{Has}

-- of so many blocks of a size, the last one is a run where their number is odd
pub record LastDue (line names : List ℕ) (size count high at : ℕ) : Type 0 where
  pub place : at ≤ length line
  pub run : count % 2 ≡ 1 → Rises line names (high - size) high
  pub room : size ≤ high
  pub some : 0 < size

pub record LastTold (line names : List ℕ) (size count high at : ℕ) (r : Result ℕ ℕ) : Type 0 where
  pub odd : (p : ℕ) → r ≡ Ok p → count % 2 ≡ 1
  pub there : (p : ℕ) → r ≡ Ok p → (n : List ℕ) → Spells line at n → Holds line names (high - size) high p n
  pub passed : (k : ℕ) → r ≡ Err k → count % 2 ≡ 1 → k ≡ high - size
  pub lacks : (k : ℕ) → r ≡ Err k → count % 2 ≡ 1 → (n : List ℕ) → Spells line at n → Lacks line names (high - size) high n
  pub none : (k : ℕ) → r ≡ Err k → count % 2 ≡ 0 → k ≡ high

-- runs in which a name is looked for
pub record Looked (line names : List ℕ) (first stop at : ℕ) : Type 0 where
  pub runs : Runs line names first 16 ((stop - first) / 16) stop
  pub within : stop ≤ length names
  pub place : at ≤ length line

pub record LookTold (line names : List ℕ) (first stop at : ℕ) (r : Option ℕ) : Type 0 where
  pub there : (p : ℕ) → r ≡ Some p → (n : List ℕ) → Spells line at n → Holds line names first stop p n
  pub new : r ≡ None → (n : List ℕ) → Spells line at n → Lacks line names first stop n

-- a last run of sixteen, and runs before it
pub record CarryDue (line names : List ℕ) (first end : ℕ) : Type 0 where
  pub from : first + 16 ≤ end
  pub within : end ≤ length names
  pub whole : edge first end ≡ end
  pub differ : Differ line names first end
  pub last : Rises line names (end - 16) end
  pub runs : Runs line names first 16 ((end - 16 - first) / 16) (end - 16)

-- the same places, in runs
pub record Carried (line names after : List ℕ) (first end : ℕ) : Type 0 where
  pub long : length after ≡ length names
  pub sorted : Sorted line after first end
  pub below : (k : ℕ) → k < first → get_or after k 0 ≡ get_or names k 0
  pub kept : (k : ℕ) → first ≤ k → k < end → Has after first end (get_or names k 0)
  pub old : (k : ℕ) → first ≤ k → k < end → Has names first end (get_or after k 0)

-- a name that is not in the runs before the last one
pub record PutDue (line names : List ℕ) (first last end at : ℕ) : Type 0 where
  pub sorted : Sorted line names first end
  pub last-is : last ≡ edge first end
  pub room : end < length names
  pub named : Named line at
  pub lacks : (n : List ℕ) → Spells line at n → Lacks line names first last n

-- where a place comes from
pub data Came (names : List ℕ) (first end at p : ℕ) : Type 0 where
  new : p ≡ at → Came names first end at p
  old : Has names first end p → Came names first end at p

-- a place more
pub record Grown (line names after : List ℕ) (first end at : ℕ) : Type 0 where
  pub long : length after ≡ length names
  pub lacks : (n : List ℕ) → Spells line at n → Lacks line names first end n
  pub sorted : Sorted line after first (end + 1)
  pub below : (k : ℕ) → k < first → get_or after k 0 ≡ get_or names k 0
  pub kept : (k : ℕ) → first ≤ k → k < end → Has after first (end + 1) (get_or names k 0)
  pub added : Has after first (end + 1) at
  pub came : (k : ℕ) → first ≤ k → k < end + 1 → Came names first end at (get_or after k 0)

-- a name was there, or is kept
pub record Stored (line names after : List ℕ) (first end at : ℕ) (r : Option ℕ) : Type 0 where
  pub there : (p : ℕ) → r ≡ Some p → (n : List ℕ) → Spells line at n → Holds line names first end p n
  pub same : (p : ℕ) → r ≡ Some p → after ≡ names
  pub new : r ≡ None → Grown line names after first end at
