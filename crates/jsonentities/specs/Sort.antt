-- Entities in order, each in the cell of its place
use Rattle.std.specs.Prelude.{◌≡◌, Bool, true, false, List, [], ◌∷◌, ℕ, suc, ◌+◌, ◌<◌, ◌≤◌, length, drop, get_or}
use Rattle.jsontext.specs.Reading.{Read, got}
use Rattle.jsontext.specs.Strings.{string}
use Rattle.jsontext.specs.Events.{Item}
use Rattle.jsontrace.specs.Order.{item_before, ordered_entities}
use Rattle.jsonruns.specs.Good.{Good}
use Rattle.jsoncount.specs.Sizes.{entity_read}
use Rattle.jsonnames.specs.Sorted.{Inserted}
use Rattle.jsontrace.specs.Trace.{entities_add}
use Rattle.jsonroom.specs.declared.Bodies.{Bodies}
use Rattle.jsonroom.specs.declared.Next.{Next}
use Rattle.jsonview.specs.Room.{numbers}
use Rattle.jsonadds.specs.Place.{Spare}
use Rattle.jsonentry.specs.Marks.{MarkReady, MarkAdds}
use Rattle.jsonentry.specs.Entries.{named_entities}
use Rattle.jsonentities.specs.declared.sorting.Pair.{Pair}
use Rattle.jsonentities.specs.Order.{arranged_item}
use Rattle.jsonentities.specs.Put.{named_item}

-- ---- one entity, and two

-- an entity stands at p
pub record Stands (line : List ℕ) (p : ℕ) (i : Item) : Type 0 where
  pub rest : List ℕ
  pub within : p ≤ length line
  pub is : entity_read (drop p line) ≡ got i rest

-- its type and its id
pub record Keys (line : List ℕ) (r : Pair) (i : Item) : Type 0 where
  pub after-type : List ℕ
  pub after-id : List ℕ
  pub type-is : string (drop r.kind line) ≡ got i.type after-type
  pub id-is : string (drop r.id line) ≡ got i.id after-id

pub record PairTold (line : List ℕ) (at : ℕ) (r : Pair) : Type 0 where
  pub kind-within : r.kind ≤ length line
  pub id-within : r.id ≤ length line
  pub is : (i : Item) (rest : List ℕ) → entity_read (drop at line) ≡ got i rest → Keys line r i

pub record BeforeTold (line : List ℕ) (y x : ℕ) (r : Bool) : Type 0 where
  pub is : (i j : Item) → Stands line y i → Stands line x j → r ≡ item_before i j

-- ---- cells

-- up to the end, each cell is the place of an entity, and none is before one in a lower cell
pub record InOrder (line names : List ℕ) (end : ℕ) : Type 0 where
  pub within : end ≤ length names
  pub good : (k : ℕ) → k < end → Good line (get_or names k 0) (entity_read (drop (get_or names k 0) line))
  pub rising : (i j : ℕ) (a b : Item) → i < j → j < end → Stands line (get_or names i 0) a → Stands line (get_or names j 0) b → item_before b a ≡ false

-- the entity at `at` is not before those below the cell, and before those from it on
pub record CellTold (line names : List ℕ) (end at cell : ℕ) : Type 0 where
  pub within : cell ≤ end
  pub below : (x : Item) → Stands line at x → (k : ℕ) (a : Item) → k < cell → Stands line (get_or names k 0) a → item_before x a ≡ false
  pub above : (x : Item) → Stands line at x → (k : ℕ) (a : Item) → cell ≤ k → k < end → Stands line (get_or names k 0) a → item_before x a ≡ true

-- and stands in that cell
pub record ItemPut (line names after : List ℕ) (end at : ℕ) : Type 0 where
  pub cell : ℕ
  pub told : CellTold line names end at cell
  pub inserted : Inserted cell end at names after

-- an entity at p, with its attributes in order
pub record Stood (line : List ℕ) (p : ℕ) (y : Item) : Type 0 where
  pub item : Item
  pub stands : Stands line p item
  pub is : y ≡ arranged_item item

-- from a cell on, the places of these
pub data ItemCells (line names : List ℕ) : ℕ → List Item → Type 0 where
  none : {k : ℕ} → ItemCells line names k []
  more : {k : ℕ} {y : Item} {ys : List Item} → Stood line (get_or names k 0) y → ItemCells line names (suc k) ys → ItemCells line names k (y ∷ ys)

-- ---- entities that are put in order

pub record SortDue (line : List ℕ) (at : ℕ) (m : Read (List Item)) (names : List ℕ) : Type 0 where
  pub good : Good line at m
  pub spare : Spare m names 0 named_entities

pub record Sorted (line : List ℕ) (m : Read (List Item)) (names after : List ℕ) (count : ℕ) : Type 0 where
  pub long : length after ≡ length names
  pub many : (what : List Item) (rest : List ℕ) → m ≡ got what rest → count ≡ length what
  pub cells : (what : List Item) (rest : List ℕ) → m ≡ got what rest → ItemCells line after 0 (ordered_entities what)

-- ---- entities in cells, written

-- names inside them
unfoldable pub inside_items : List Item → ℕ
inside_items [] = 0
inside_items (i ∷ is) = named_item i + inside_items is

-- entities stand in the first cells, and their tables fit
pub record SortedDue (line names : List ℕ) (count : ℕ) (file marks : List ℕ) (b : Bodies) (n : Next) : Type 0 where
  pub items : List Item
  pub cells : ItemCells line names 0 items
  pub many_is : length items ≡ count
  pub ready : MarkReady file marks b n (entities_add items (numbers n))
  pub spare : count + inside_items items ≤ length names

pub record SortedWritten (line names after : List ℕ) (count : ℕ) (before file marks marks' : List ℕ) (b : Bodies) (n r : Next) : Type 0 where
  pub long : length after ≡ length names
  pub adds : (items : List Item) → ItemCells line names 0 items → length items ≡ count → MarkAdds before file marks marks' b n (entities_add items (numbers n)) r
