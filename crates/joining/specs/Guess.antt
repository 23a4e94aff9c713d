-- A guessed order: the strings it is of, and what is checked of it
use Rattle.std.specs.Prelude.{◌≡◌, ℕ, ◌+◌, ◌<◌, ◌≤◌, Bool, true, false, List, length, slice_index, slice_index_or, slice_set, Option, Some, None}
use Rattle.meaning.specs.Case.{text}
use Rattle.encode.specs.Join.{insert_new, joined}
use Rattle.encode.specs.Unsorted.{texts}
use Rattle.joining.specs.Order.{Place, listed, InOrder}
use Rattle.joining.specs.Run.{Begun}
use Rattle.joining.specs.declared.Taken.{Taken}
use Rattle.joining.specs.declared.Taken.TheVariants as takes

-- a part of a table that is not empty
pub record Beyond (low high : ℕ) : Type 0 where
  pub some : low < high
  pub inside : high ≤ 16384

-- ---- the texts of those kept

abbrev pub picked : List ℕ → List ℕ → ℕ → List ℕ
picked s kept = λ (j : ℕ). text s (slice_index kept j)

-- where string k is told to be kept, its text is among them
pub record IsKept (s kept : List ℕ) (m k : ℕ) (r : Bool) : Type 0 where
  pub is : r ≡ true → insert_new (text s k) (joined (picked s kept) m) ≡ joined (picked s kept) m

-- k stands behind those kept; or there is no room
abbrev pub PutNext : List ℕ → ℕ → ℕ → List ℕ → Option ℕ → Type 0
PutNext old m k kept (Some r) = (r ≡ m + 1) × ((m < length old) × (kept ≡ slice_set old m k))
PutNext old m k kept None = kept ≡ old

pub record PutsNext (old : List ℕ) (m k : ℕ) (kept : List ℕ) (r : Option ℕ) : Type 0 where
  pub is : PutNext old m k kept r

-- string k is among those kept now; or there is no room
abbrev pub KeptOne : List ℕ → List ℕ → ℕ → ℕ → List ℕ → Option ℕ → Type 0
KeptOne s old m k kept (Some r) = (r ≤ length kept) × (joined (picked s kept) r ≡ insert_new (text s k) (joined (picked s old) m))
KeptOne s old m k kept None = kept ≡ old

pub record KeepsOne (s old : List ℕ) (m k : ℕ) (kept : List ℕ) (r : Option ℕ) : Type 0 where
  pub is : KeptOne s old m k kept r

-- the first m kept have the texts of the first k strings
pub record Sifts (s kept : List ℕ) (all m k : ℕ) : Type 0 where
  pub is : joined (picked s kept) m ≡ joined (text s) k
  pub fits : m ≤ length kept
  pub upto : k ≤ all

-- ---- the check

-- those kept have all texts, and are few enough for the tables
pub record Few (s kept : List ℕ) (many : ℕ) (order : List ℕ) : Type 0 where
  pub all : joined (picked s kept) many ≡ texts s
  pub fits : many ≤ length kept
  pub few : many ≤ 16384
  pub room : many ≤ length order

-- where x is told to follow, its place is behind all
pub record Follows (x : List ℕ) (l : List (List ℕ)) (n : ℕ) (r : Bool) : Type 0 where
  pub is : r ≡ true → Place x l n n

-- where x is told to repeat, it is there
pub record Repeats (x : List ℕ) (l : List (List ℕ)) (r : Bool) : Type 0 where
  pub is : r ≡ true → insert_new x l ≡ l

-- string k is among the texts in order now; or it does not go behind them
abbrev pub Grown : List ℕ → List ℕ → ℕ → ℕ → List ℕ → Option ℕ → Type 0
Grown s old n k order (Some m) = (m ≤ n + 1) × (InOrder s order m × (listed s order m ≡ insert_new (text s k) (listed s old n)))
Grown s old n k order None = Unit {0}

pub record Grows (s old : List ℕ) (n k : ℕ) (order : List ℕ) (r : Option ℕ) : Type 0 where
  pub is : Grown s old n k order r

-- where all are told to be seen, they are
pub record Seen (seen : List Bool) (n : ℕ) (r : Bool) : Type 0 where
  pub is : r ≡ true → (k : ℕ) → k < n → slice_index_or seen k false ≡ true

-- all strings are in order, each text once; or the first so many are joined
abbrev pub Took : List ℕ → List ℕ → Taken → Type 0
Took s order (takes.All n) = (n ≤ length order) × (listed s order n ≡ texts s)
Took s order (takes.First k) = Begun s order k

pub record Takes (s order : List ℕ) (r : Taken) : Type 0 where
  pub is : Took s order r
