-- Names as places in the line, sorted, beside those that the definition has seen
use Rattle.std.specs.declared.cmp.Ordering.TheVariants.{Less}
use Rattle.std.specs.Prelude.{◌≡◌, List, ◌∷◌, ℕ, ◌+◌, ◌-◌, ◌/◌, ◌%◌, ◌<◌, ◌≤◌, length, drop, get_or, Result, Ok, Err, Result, Ok, Err}
use Rattle.std.proofs.Math.Option.{none, some}
use Rattle.jsontext.specs.declared.Fault.TheVariants.{RepeatedName}
use Rattle.jsontext.specs.declared.Bad.{Bad}
use Rattle.jsontext.specs.Reading.{got}
use Rattle.jsontext.specs.Strings.{string}
use Rattle.jsontext.specs.Values.{Name, before}
use Rattle.jsonread.specs.Told.{Faulty}
use Rattle.jsonread.specs.Spelling.{order_of}

-- a string that reads well stands at p and says n
pub record Spells (line : List ℕ) (p : ℕ) (n : List ℕ) : Type 0 where
  pub rest : List ℕ
  pub within : p ≤ length line
  pub is : string (drop p line) ≡ got n rest

pub record Named (line : List ℕ) (p : ℕ) : Type 0 where
  pub name : List ℕ
  pub spells : Spells line p name

-- from first to end, each cell is the place of a name, and they rise
pub record Rises (line names : List ℕ) (first end : ℕ) : Type 0 where
  pub from : first ≤ end
  pub within : end ≤ length names
  pub named : (k : ℕ) → first ≤ k → k < end → Named line (get_or names k 0)
  pub rising : (i j : ℕ) (m n : List ℕ) → first ≤ i → i < j → j < end → Spells line (get_or names i 0) m → Spells line (get_or names j 0) n → order_of m n ≡ Less

-- runs below a cell, the last ones first: so many blocks of a size, one run for each bit of their number
pub data Runs (line names : List ℕ) (first : ℕ) : ℕ → ℕ → ℕ → Type 0 where
  over : {size count high : ℕ} → count ≡ 0 → high ≡ first → Runs line names first size count high
  even : {size count high : ℕ} (half : ℕ) → count ≡ half + half → Runs line names first (size + size) half high → Runs line names first size count high
  odd : {size count high : ℕ} (half low : ℕ) → count ≡ half + half + 1 → high ≡ low + size → Rises line names low high → Runs line names first (size + size) half low → Runs line names first size count high

-- no name stands in two cells
abbrev pub Differ : List ℕ → List ℕ → ℕ → ℕ → Type 0
Differ line names first end = (i j : ℕ) (n : List ℕ) → first ≤ i → i < j → j < end → Spells line (get_or names i 0) n → Spells line (get_or names j 0) n → ⊥

-- past the last whole sixteen
abbrev pub edge : ℕ → ℕ → ℕ
edge first end = end - (end - first) % 16

-- the names of an object: blocks of sixteen in runs, then those past the last whole block
pub record Sorted (line names : List ℕ) (first end : ℕ) : Type 0 where
  pub from : first ≤ end
  pub within : end ≤ length names
  pub differ : Differ line names first end
  pub last : Rises line names (edge first end) end
  pub runs : Runs line names first 16 ((end - first) / 16) (edge first end)

-- a cell has the place p of the name n
pub record Holds (line names : List ℕ) (first end p : ℕ) (n : List ℕ) : Type 0 where
  pub cell : ℕ
  pub from : first ≤ cell
  pub below : cell < end
  pub is : get_or names cell 0 ≡ p
  pub spells : Spells line p n

-- no cell has the name n
abbrev pub Lacks : List ℕ → List ℕ → ℕ → ℕ → List ℕ → Type 0
Lacks line names first end n = (k : ℕ) → first ≤ k → k < end → Spells line (get_or names k 0) n → ⊥

-- all names below a cell are before the name, all from it on after it
pub record Between (line names : List ℕ) (first end cell : ℕ) (n : List ℕ) : Type 0 where
  pub less : (k : ℕ) (m : List ℕ) → first ≤ k → k < cell → Spells line (get_or names k 0) m → order_of m n ≡ Less
  pub more : (k : ℕ) (m : List ℕ) → cell ≤ k → k < end → Spells line (get_or names k 0) m → order_of n m ≡ Less

-- of a name that stands at `at`
pub record FindTold (line names : List ℕ) (first end at : ℕ) (r : Result ℕ ℕ) : Type 0 where
  pub there : (p : ℕ) → r ≡ Ok p → (n : List ℕ) → Spells line at n → Holds line names first end p n
  pub from : (cell : ℕ) → r ≡ Err cell → first ≤ cell
  pub within : (cell : ℕ) → r ≡ Err cell → cell ≤ end
  pub before : (cell : ℕ) → r ≡ Err cell → (n : List ℕ) → Spells line at n → Between line names first end cell n

-- a place stored at a cell, and what stood there up to the end one up
pub record Inserted (cell end at : ℕ) (names after : List ℕ) : Type 0 where
  pub long : length after ≡ length names
  pub below : (k : ℕ) → k < cell → get_or after k 0 ≡ get_or names k 0
  pub new : get_or after cell 0 ≡ at
  pub moved : (k : ℕ) → cell ≤ k → k < end → get_or after (k + 1) 0 ≡ get_or names k 0
  pub beyond : (k : ℕ) → end < k → get_or after k 0 ≡ get_or names k 0

-- the names kept are those that the definition has seen
pub record Table (line names : List ℕ) (first end : ℕ) (seen : List Name) : Type 0 where
  pub sorted : Sorted line names first end
  pub missing : (n : List ℕ) → Lacks line names first end n → before n seen ≡ none
  pub found : (p : ℕ) (n : List ℕ) → Holds line names first end p n → before n seen ≡ some (length line - p)

-- a name was read up to e, and is kept
pub record Kept (line names after : List ℕ) (first end at e : ℕ) : Type 0 where
  pub name : List ℕ
  pub from : at ≤ e
  pub within : e ≤ length line
  pub is : string (drop at line) ≡ got name (drop e line)
  pub long : length after ≡ length names
  pub others : (k : ℕ) → k < first → get_or after k 0 ≡ get_or names k 0
  pub new : (seen : List Name) → Table line names first end seen → before name seen ≡ none
  pub table : (seen : List Name) → Table line names first end seen → Table line after first (end + 1) (record { name = name; left = length line - at } ∷ seen)

-- a name was read that was read before, at q
pub record Repeated (line names : List ℕ) (first end at q : ℕ) : Type 0 where
  pub name : List ℕ
  pub rest : List ℕ
  pub place : q ≤ length line
  pub is : string (drop at line) ≡ got name rest
  pub seen : (seen : List Name) → Table line names first end seen → before name seen ≡ some (length line - q)

-- what is wrong with a name
pub data Refuses (line names : List ℕ) (first end at : ℕ) (b : Bad) : Type 0 where
  unread : Faulty line b (string (drop at line)) → Refuses line names first end at b
  again : b.fault ≡ RepeatedName → b.at ≡ at → Repeated line names first end at b.first → Refuses line names first end at b

pub record Entered (line names after : List ℕ) (first end at : ℕ) (r : Result ℕ Bad) : Type 0 where
  pub kept : (e : ℕ) → r ≡ Ok e → Kept line names after first end at e
  pub refused : (b : Bad) → r ≡ Err b → Refuses line names first end at b
  pub same : (b : Bad) → r ≡ Err b → after ≡ names
