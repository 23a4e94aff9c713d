-- Members in order, each in the cell of its name's place
use Rattle.std.specs.Prelude.{◌≡◌, List, ◌∷◌, true, ℕ, suc, ◌<◌, ◌≤◌, length, drop, get_or}
use Rattle.meaning.specs.Text.{before}
use Rattle.jsontext.specs.Reading.{got, blanks}
use Rattle.jsontext.specs.Strings.{string}
use Rattle.jsontext.specs.Values.{J, Parts, end, part, value}
use Rattle.jsontrace.specs.Order.{insert_part, ordered}
use Rattle.jsonnames.specs.Sorted.{Spells, Named, Sorted, Lacks}

-- a name that is not among those that are kept
pub record KeepDue (line names : List ℕ) (first stop at : ℕ) : Type 0 where
  pub sorted : Sorted line names first stop
  pub room : stop < length names
  pub named : Named line at
  pub lacks : (n : List ℕ) → Spells line at n → Lacks line names first stop n

-- members put one after another among those in order
unfoldable pub insert_all : Parts → Parts → Parts
insert_all end sorted = sorted
insert_all (part n j ps) sorted = insert_all ps (insert_part n (ordered j) sorted)

-- a member whose name stands at p, with its value in order
pub record Stands (levels : ℕ) (line : List ℕ) (p : ℕ) (n : List ℕ) (o : J) : Type 0 where
  pub after : List ℕ
  pub from : List ℕ
  pub rest : List ℕ
  pub value-is : J
  pub within : p ≤ length line
  pub name : string (drop p line) ≡ got n after
  pub colon : blanks after ≡ 58 ∷ from
  pub reads : value levels (blanks from) ≡ got value-is rest
  pub is : o ≡ ordered value-is

-- from a cell on, the members' names
pub data Cells (levels : ℕ) (line names : List ℕ) : ℕ → Parts → Type 0 where
  none : {k : ℕ} → Cells levels line names k end
  more : {k : ℕ} {n : List ℕ} {o : J} {ps : Parts} → Stands levels line (get_or names k 0) n o → Cells levels line names (suc k) ps → Cells levels line names k (part n o ps)

-- no member has the name
unfoldable pub Fresh : List ℕ → Parts → Type 0
Fresh n end = Unit {0}
Fresh n (part m o ps) = (m ≡ n → ⊥) × Fresh n ps

-- names that differ from one another
unfoldable pub Apart : Parts → Type 0
Apart end = Unit {0}
Apart (part n j ps) = Fresh n ps × Apart ps

-- none of the first names is among the second
unfoldable pub Away : Parts → Parts → Type 0
Away end qs = Unit {0}
Away (part n j ps) qs = Fresh n qs × Away ps qs

-- ---- members in cells, in whatever order

pub data Among (n : List ℕ) (o : J) : Parts → Type 0 where
  here : {ps : Parts} → Among n o (part n o ps)
  later : {m : List ℕ} {p : J} {ps : Parts} → Among n o ps → Among n o (part m p ps)

-- a member's name stands in a cell
pub record InCell (levels : ℕ) (line names : List ℕ) (first stop : ℕ) (n : List ℕ) (o : J) : Type 0 where
  pub cell : ℕ
  pub from : first ≤ cell
  pub below : cell < stop
  pub stands : Stands levels line (get_or names cell 0) n o

-- a place is that of a member's name
pub record Belongs (levels : ℕ) (line : List ℕ) (p : ℕ) (ps : Parts) : Type 0 where
  pub name : List ℕ
  pub value : J
  pub among : Among name value ps
  pub stands : Stands levels line p name value

pub record Scattered (levels : ℕ) (line names : List ℕ) (first stop : ℕ) (ps : Parts) : Type 0 where
  pub all : (n : List ℕ) (o : J) → Among n o ps → InCell levels line names first stop n o
  pub only : (k : ℕ) → first ≤ k → k < stop → Belongs levels line (get_or names k 0) ps

-- before all members
unfoldable pub Least : List ℕ → Parts → Type 0
Least n end = Unit {0}
Least n (part m o ps) = (before n m ≡ true) × Least n ps

-- each before all that follow
unfoldable pub Ascends : Parts → Type 0
Ascends end = Unit {0}
Ascends (part n o ps) = Least n ps × Ascends ps
