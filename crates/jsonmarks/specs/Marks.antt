-- A table of marks in the upper cells: one for each name of the object that owns it
use Rattle.std.specs.Prelude.{◌≡◌, Bool, true, false, List, [], ◌∷◌, ℕ, ◌+◌, ◌*◌, ◌-◌, ◌/◌, ◌%◌, ◌^◌, ◌<◌, ◌≤◌, length, drop, get_or, set, Option, None, Result, Ok}
use Rattle.jsontext.specs.declared.Bad.{Bad}
use Rattle.jsontext.specs.Reading.{got}
use Rattle.jsontext.specs.Strings.{string}
use Rattle.jsonread.specs.declared.names.Cursor.{Cursor}
use Rattle.jsonread.specs.Spelling.{Spelt}
use Rattle.jsonnames.specs.Sorted.{Spells, Named, Sorted, Lacks, Entered}
use Rattle.jsonnames.specs.Runs.{Stored}

-- ---- a number of the bytes that a name stands for

unfoldable pub digest_from : ℕ → List ℕ → ℕ
digest_from d [] = d
digest_from d (b ∷ s) = digest_from ((d * 1000003 + b) % 1099511627776) s

pub record DigestTold (line : List ℕ) (at d : ℕ) : Type 0 where
  pub below : d < 1099511627776
  pub is : (n rest : List ℕ) → string (drop at line) ≡ got n rest → d ≡ digest_from 0 n

pub record DigestIs (line n : List ℕ) (x : Cursor) (d : ℕ) : Type 0 where
  pub bytes : List ℕ
  pub spelt : Spelt line x bytes
  pub is : digest_from 0 n ≡ digest_from d bytes

pub record Digesting (line : List ℕ) (at : ℕ) (x : Cursor) (d : ℕ) : Type 0 where
  pub below : d < 1099511627776
  pub goes : (n rest : List ℕ) → string (drop at line) ≡ got n rest → DigestIs line n x d

-- ---- the table: the last quarter of the cells, whose last two say whose it is and how many cells have marks

abbrev pub table_from : ℕ → ℕ
table_from cells = cells - cells / 4

-- the mark of a digest, of so many cells from one on
abbrev pub Marks : List ℕ → ℕ → ℕ → ℕ → Type 0
Marks names from size d = get_or names (from + d % size) 0 / 2 ^ (d / 17179869184) % 2 ≡ 1

-- marks of the object whose first cell is f
pub record Owns (line names : List ℕ) (f : ℕ) : Type 0 where
  pub owner : get_or names (length names - 1) 0 ≡ length line + 1 + f
  pub some : 0 < get_or names (length names - 2) 0
  pub room : table_from (length names) + get_or names (length names - 2) 0 + 2 ≤ length names

-- all names of a large object have their marks, where the table is the object's
pub record Marked (line names : List ℕ) (first end : ℕ) : Type 0 where
  pub all : 256 ≤ end - first → Owns line names first → (k : ℕ) → first ≤ k → k < end → (n : List ℕ) → Spells line (get_or names k 0) n → Marks names (table_from (length names)) (get_or names (length names - 2) 0) (digest_from 0 n)

pub record Filed (line names : List ℕ) (first end : ℕ) : Type 0 where
  pub sorted : Sorted line names first end
  pub marked : Marked line names first end

-- the names of the objects around are as they were, and the table where it is still one of theirs
pub record Below (line : List ℕ) (used : ℕ) (names after : List ℕ) : Type 0 where
  pub long : length after ≡ length names
  pub same : (k : ℕ) → k < used → get_or after k 0 ≡ get_or names k 0
  pub owner : (f : ℕ) → f < used → Owns line after f → Owns line names f
  pub marks : (f : ℕ) → f < used → Owns line after f → (k : ℕ) → table_from (length names) ≤ k → get_or after k 0 ≡ get_or names k 0

-- ---- one mark, and many

pub record SlotTold (d size r : ℕ) : Type 0 where
  pub is : r ≡ d % size
  pub below : r < size

pub record MarkDue (names : List ℕ) (from size d : ℕ) : Type 0 where
  pub some : 0 < size
  pub room : from + size ≤ length names
  pub below : d < 1099511627776

pub record MarkTold (names : List ℕ) (from size d : ℕ) (r : Bool) : Type 0 where
  pub clear : r ≡ false → Marks names from size d → ⊥

pub record Outside (names after : List ℕ) (from size : ℕ) : Type 0 where
  pub long : length after ≡ length names
  pub lower : (k : ℕ) → k < from → get_or after k 0 ≡ get_or names k 0
  pub upper : (k : ℕ) → from + size ≤ k → get_or after k 0 ≡ get_or names k 0

pub record MarkSet (names after : List ℕ) (from size d : ℕ) : Type 0 where
  pub outside : Outside names after from size
  pub is : Marks after from size d
  pub kept : (e : ℕ) → Marks names from size e → Marks after from size e

pub record AllDue (names : List ℕ) (first end from size : ℕ) : Type 0 where
  pub some : 0 < size
  pub room : from + size ≤ length names
  pub order : first ≤ end
  pub under : end ≤ from

pub record AllSet (line names after : List ℕ) (first end from size : ℕ) : Type 0 where
  pub outside : Outside names after from size
  pub all : (k : ℕ) → first ≤ k → k < end → (n : List ℕ) → Spells line (get_or names k 0) n → Marks after from size (digest_from 0 n)

-- ---- an object with its table

pub record SizeTold (line names : List ℕ) (first r : ℕ) : Type 0 where
  pub none : r ≡ 0 → Owns line names first → ⊥
  pub owns : 0 < r → Owns line names first
  pub is : 0 < r → r ≡ get_or names (length names - 2) 0

pub record RoomTold (cells r : ℕ) : Type 0 where
  pub some : 0 < r
  pub most : r ≤ cells / 4 - 2

pub record OwnerTold (bytes first r : ℕ) : Type 0 where
  pub is : 0 < r → r ≡ bytes + 1 + first

pub record Signed (size owner : ℕ) (names after : List ℕ) : Type 0 where
  pub is : after ≡ set (set names (length names - 2) size) (length names - 1) owner

pub record TakeDue (names : List ℕ) (first end : ℕ) : Type 0 where
  pub many : 256 ≤ end - first
  pub under : end ≤ table_from (length names)

-- cells below the table are as they were, and no object around has it
pub record Taken (line names after : List ℕ) (first end : ℕ) : Type 0 where
  pub long : length after ≡ length names
  pub lower : (k : ℕ) → k < table_from (length names) → get_or after k 0 ≡ get_or names k 0
  pub marked : Marked line after first end
  pub others : (f : ℕ) → f < first → Owns line after f → ⊥

pub record AbsentDue (line names : List ℕ) (first end d : ℕ) : Type 0 where
  pub filed : Filed line names first end
  pub below : d < 1099511627776

pub record AbsentTold (line names : List ℕ) (first end d : ℕ) (r : Bool) : Type 0 where
  pub lacks : r ≡ true → (n : List ℕ) → d ≡ digest_from 0 n → Lacks line names first end n

pub record KeepDue (line names : List ℕ) (first end at : ℕ) : Type 0 where
  pub filed : Filed line names first end
  pub under : end < table_from (length names)
  pub named : Named line at

-- a name looked for and kept; the table is as it was
pub record Kept (line names after : List ℕ) (first end at : ℕ) (r : Option ℕ) : Type 0 where
  pub stored : Stored line names after first end at r
  pub upper : (k : ℕ) → table_from (length names) ≤ k → get_or after k 0 ≡ get_or names k 0

pub record DueTold (count : ℕ) (r : Bool) : Type 0 where
  pub first : count ≡ 256 → r ≡ true

-- the mark of one digest may be missing
pub record NoteDue (line names : List ℕ) (first end d : ℕ) : Type 0 where
  pub order : first ≤ end
  pub many : 255 ≤ end - first
  pub under : end < table_from (length names)
  pub below : d < 1099511627776
  pub nearly : 256 ≤ end - first → Owns line names first → (k : ℕ) → first ≤ k → k < end + 1 → (n : List ℕ) → Spells line (get_or names k 0) n → (d ≡ digest_from 0 n → ⊥) → Marks names (table_from (length names)) (get_or names (length names - 2) 0) (digest_from 0 n)

pub record Noted (line names after : List ℕ) (first end : ℕ) : Type 0 where
  pub long : length after ≡ length names
  pub lower : (k : ℕ) → k < table_from (length names) → get_or after k 0 ≡ get_or names k 0
  pub marked : Marked line after first (end + 1)
  pub owner : (f : ℕ) → f < first → Owns line after f → Owns line names f
  pub marks : (f : ℕ) → f < first → Owns line after f → (k : ℕ) → table_from (length names) ≤ k → get_or after k 0 ≡ get_or names k 0

-- a name was there, or is kept
pub record Held (line names after : List ℕ) (first end at : ℕ) (r : Option ℕ) : Type 0 where
  pub stored : Stored line names after first end at r
  pub below : Below line first names after
  pub marked : r ≡ None → Marked line after first (end + 1)

pub record Tended (line names after : List ℕ) (first end at : ℕ) (r : Result ℕ Bad) : Type 0 where
  pub entered : Entered line names after first end at r
  pub below : Below line first names after
  pub marked : (e : ℕ) → r ≡ Ok e → Marked line after first (end + 1)
