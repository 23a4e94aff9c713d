-- Parts of a line that read well, and what they add to the tables, written
use Rattle.std.specs.Prelude.{◌≡◌, true, List, [], ◌∷◌, ℕ, ◌+◌, ◌*◌, ◌-◌, ◌<◌, ◌≤◌, ℤ, length, drop, get_or}
use Rattle.std.proofs.Common.{of_z}
use Rattle.std.specs.Int.{w64}
use Rattle.jsontext.specs.Reading.{Read, got, blanks}
use Rattle.jsontext.specs.Strings.{string}
use Rattle.jsontext.specs.Numbers.{int, number}
use Rattle.jsontext.specs.Values.{J, Null, Truth, Int, Text, EntityOf, Decimal, Array, Object, Parts, end, part, item_parts, member_parts, value}
use Rattle.jsontrace.specs.Order.{ordered, ordered_items, ordered_members}
use Rattle.jsontrace.specs.Trace.{Tables, ◌⊕◌, texts, members, value as value·Trace, Next as Next-as_Trace, many, after_run, value_adds, items_add, members_add}
use Rattle.jsonread.specs.Told.{cap}
use Rattle.jsonparts.specs.Flat.{scalar}
use Rattle.jsonruns.specs.Good.{Good}
use Rattle.jsonruns.specs.Forms.{Says}
use Rattle.jsonruns.specs.Run.{Member}
use Rattle.jsonroom.specs.declared.Bodies.{Bodies}
use Rattle.jsonroom.specs.declared.Next.{Next}
use Rattle.jsonview.specs.Room.{Ready, Adds, numbers}
use Rattle.jsonnames.specs.Sorted.{Sorted}
use Rattle.jsonsort.specs.Sort.{Cells, Scattered, Ascends}
use Rattle.jsonadds.specs.declared.Many.{Many}
use Rattle.jsonadds.specs.declared.Flat.{Flat}

-- ---- what is added

abbrev pub value_tables : J → Next-as_Trace → Tables
value_tables j k = value_adds (ordered j) k

abbrev pub name_tables : List ℕ → Next-as_Trace → Tables
name_tables t k = texts (t ∷ [])

-- a run, and what its parts add, where its first member has a number
unfoldable pub items_tables : Parts → Next-as_Trace → Tables
items_tables ps k = let inside = items_add ps (after_run k (many ps)) in members inside.0 ⊕ inside.1

unfoldable pub parts_tables : Parts → Next-as_Trace → Tables
parts_tables ps k = let inside = members_add ps (after_run k (many ps)) in members inside.0 ⊕ inside.1

abbrev pub array_tables : List J → Next-as_Trace → Tables
array_tables js k = items_tables (ordered_items (item_parts js)) k

abbrev pub array_value : List J → Next-as_Trace → Tables
array_value js k = value_tables (Array (item_parts js)) k

abbrev pub object_value : List (List ℕ × J) → Next-as_Trace → Tables
object_value ms k = value_tables (Object (member_parts ms)) k

-- ---- names of the objects in a value

unfoldable mutual
  pub named : J → ℕ
  named Null = 0
  named (Truth b) = 0
  named (Int z) = 0
  named (Text t) = 0
  named (EntityOf t i) = 0
  named (Decimal t) = 0
  named (Array ps) = inside ps
  named (Object ps) = many ps + inside ps

  pub inside : Parts → ℕ
  inside end = 0
  inside (part n j ps) = named j + inside ps

abbrev pub named_items : List J → ℕ
named_items js = named (Array (item_parts js))

abbrev pub named_members : List (List ℕ × J) → ℕ
named_members ms = named (Object (member_parts ms))

-- ---- what is due, and what was written

-- a part that reads well stands here, and its tables fit
pub record Due {A : Type 0} (line : List ℕ) (at : ℕ) (m : Read A) (file : List ℕ) (b : Bodies) (n : Next) (tables : A → Next-as_Trace → Tables) : Type 0 where
  pub what : A
  pub rest : List ℕ
  pub within : at ≤ length line
  pub is : m ≡ got what rest
  pub ready : Ready file b n (tables what (numbers n))

-- what was read up to the end is written
pub record WroteTo {A : Type 0} (line : List ℕ) (at : ℕ) (m : Read A) (before after : List ℕ) (b : Bodies) (n : Next) (tables : A → Next-as_Trace → Tables) (next : Next) (e : ℕ) : Type 0 where
  pub from : at ≤ e
  pub within : e ≤ length line
  pub is : (what : A) (rest : List ℕ) → m ≡ got what rest → rest ≡ drop e line
  pub adds : (what : A) (rest : List ℕ) → m ≡ got what rest → Adds before after b n (tables what (numbers n)) next

-- what was read is written, wherever it ends
pub record AddsTo {A : Type 0} (m : Read A) (before after : List ℕ) (b : Bodies) (n : Next) (tables : A → Next-as_Trace → Tables) (r : Next) : Type 0 where
  pub adds : (what : A) (rest : List ℕ) → m ≡ got what rest → Adds before after b n (tables what (numbers n)) r

-- cells for the names inside
pub record Spare {A : Type 0} (m : Read A) (names : List ℕ) (used : ℕ) (count : A → ℕ) : Type 0 where
  pub is : (what : A) (rest : List ℕ) → m ≡ got what rest → used + count what ≤ length names

-- cells below are as they were
pub record Stays (used : ℕ) (names after : List ℕ) : Type 0 where
  pub long : length after ≡ length names
  pub same : (k : ℕ) → k < used → get_or after k 0 ≡ get_or names k 0

-- what is due, with cells for its names
pub record PlaceDue {A : Type 0} (line : List ℕ) (at : ℕ) (m : Read A) (file : List ℕ) (b : Bodies) (n : Next) (tables : A → Next-as_Trace → Tables) (names : List ℕ) (used : ℕ) (count : A → ℕ) : Type 0 where
  pub due : Due line at m file b n tables
  pub spare : Spare m names used count

-- what was written, the names of open objects being as they were
pub record Placed {A : Type 0} (line : List ℕ) (at : ℕ) (m : Read A) (before after : List ℕ) (b : Bodies) (n : Next) (tables : A → Next-as_Trace → Tables) (next : Next) (e : ℕ) (used : ℕ) (names names' : List ℕ) : Type 0 where
  pub told : WroteTo line at m before after b n tables next e
  pub stays : Stays used names names'

pub record RunPlaced {A : Type 0} (m : Read A) (before after : List ℕ) (b : Bodies) (n : Next) (tables : A → Next-as_Trace → Tables) (r : Next) (used : ℕ) (names names' : List ℕ) : Type 0 where
  pub told : AddsTo m before after b n tables r
  pub stays : Stays used names names'

-- a member fits, and its numbers are words; its value is the last so far
pub record MemberRoom (file : List ℕ) (b : Bodies) (i name : ℕ) (next : Next) : Type 0 where
  pub fits : b.members + 8 * i + 8 ≤ length file
  pub name-word : name ≤ 4294967295
  pub some : 1 ≤ next.value
  pub value-word : next.value - 1 ≤ 4294967295

-- the record of an array or object fits, and its numbers are words
pub record HeldRoom (file : List ℕ) (b : Bodies) (next : Next) (run count : ℕ) : Type 0 where
  pub fits : b.values + 16 * next.value + 16 ≤ length file
  pub first : run ≤ 4294967295
  pub many : count ≤ 4294967295

-- ---- strings and values that hold no other

-- a name and its colon stand here, and the name fits
pub record NameDue (line : List ℕ) (at : ℕ) (file : List ℕ) (b : Bodies) (n : Next) : Type 0 where
  pub due : Due line at (string (drop at line)) file b n name_tables
  pub sign : ℕ
  pub others : List ℕ
  pub colon : blanks due.rest ≡ sign ∷ others

-- the name is written, and the value behind its colon begins at the end
pub record NameWritten (line : List ℕ) (at : ℕ) (before after : List ℕ) (b : Bodies) (n next : Next) (e : ℕ) : Type 0 where
  pub within : e ≤ length line
  pub is : (name rest : List ℕ) (sign : ℕ) (others : List ℕ) → string (drop at line) ≡ got name rest → blanks rest ≡ sign ∷ others → drop e line ≡ blanks others
  pub adds : (name rest : List ℕ) → string (drop at line) ≡ got name rest → Adds before after b n (texts (name ∷ [])) next

-- two strings
pub record TwoDue (line : List ℕ) (one other : ℕ) (file : List ℕ) (b : Bodies) (n : Next) : Type 0 where
  pub first : List ℕ
  pub second : List ℕ
  pub first-is : Says line one first
  pub second_is : Says line other second
  pub ready : Ready file b n (texts (first ∷ second ∷ []))

pub record TwoWritten (line : List ℕ) (one other : ℕ) (before after : List ℕ) (b : Bodies) (n r : Next) : Type 0 where
  pub adds : (first second : List ℕ) → Says line one first → Says line other second → Adds before after b n (texts (first ∷ second ∷ [])) r

-- what an integer's digits say, capped
pub record MagnitudeTold (line : List ℕ) (at r : ℕ) : Type 0 where
  pub is : (m : ℕ) (rest : List ℕ) → int (drop at line) ≡ got m rest → r ≡ cap m

-- a number's 64 bits
pub record IntegerTold (line : List ℕ) (at r : ℕ) : Type 0 where
  pub is : (z : ℤ) (rest : List ℕ) → number (drop at line) ≡ got z rest → r ≡ of_z w64 z

-- a word or a number stands here
pub record FlatDue (line : List ℕ) (at : ℕ) : Type 0 where
  pub good : Good line at (scalar (drop at line))
  pub other : get_or line at 0 ≡ 34 → ⊥

-- the record of a value that holds no other and no string
pub record FlatTold (line : List ℕ) (at : ℕ) (r : Flat) : Type 0 where
  pub is : (j : J) (rest : List ℕ) (k : Next-as_Trace) → scalar (drop at line) ≡ got j rest → value_tables j k ≡ value·Trace r.kind r.x r.y

-- ---- arrays

-- how many parts there are
pub record Counts {A : Type 0} (m : Read (List A)) (count : ℕ) : Type 0 where
  pub is : (what : List A) (rest : List ℕ) → m ≡ got what rest → count ≡ length what

pub record CountTold {A : Type 0} (line : List ℕ) (at : ℕ) (m : Read (List A)) (r : Many) : Type 0 where
  pub from : at ≤ r.end
  pub within : r.end ≤ length line
  pub is : (what : List A) (rest : List ℕ) → m ≡ got what rest → rest ≡ drop r.end line
  pub many_is : Counts m r.count

-- ---- objects

-- a member stands here
pub record MemberGood (levels : ℕ) (line : List ℕ) (at : ℕ) : Type 0 where
  pub what : List ℕ × J
  pub after : List ℕ
  pub within : at ≤ length line
  pub is : Member (λ n. true) (λ n t. value levels t) (drop at line) what after

pub record MemberEnds (levels : ℕ) (line : List ℕ) (at e : ℕ) : Type 0 where
  pub from : at ≤ e
  pub within : e ≤ length line
  pub is : (what : List ℕ × J) (after : List ℕ) → Member (λ n. true) (λ n t. value levels t) (drop at line) what after → after ≡ drop e line

-- members of an object that were put in order, in the cells of their names
pub record SortTold (levels : ℕ) (line : List ℕ) (at : ℕ) (m : Read (List (List ℕ × J))) (names after : List ℕ) (used : ℕ) (r : Many) : Type 0 where
  pub from : at ≤ r.end
  pub within : r.end ≤ length line
  pub is : (what : List (List ℕ × J)) (rest : List ℕ) → m ≡ got what rest → rest ≡ drop r.end line
  pub many_is : Counts m r.count
  pub cells : (what : List (List ℕ × J)) (rest : List ℕ) → m ≡ got what rest → Cells levels line after used (ordered_members (member_parts what))
  pub fits : used + r.count ≤ length names
  pub stays : Stays used names after

-- an object's names in runs, each at its place
pub record CollectTold (levels : ℕ) (line : List ℕ) (at : ℕ) (m : Read (List (List ℕ × J))) (names after : List ℕ) (used : ℕ) (r : Many) : Type 0 where
  pub from : at ≤ r.end
  pub within : r.end ≤ length line
  pub is : (what : List (List ℕ × J)) (rest : List ℕ) → m ≡ got what rest → rest ≡ drop r.end line
  pub many_is : Counts m r.count
  pub table : Sorted line after used (used + r.count)
  pub scattered : (what : List (List ℕ × J)) (rest : List ℕ) → m ≡ got what rest → Scattered levels line after used (used + r.count) (ordered_members (member_parts what))
  pub ascends : (what : List (List ℕ × J)) (rest : List ℕ) → m ≡ got what rest → Ascends (ordered_members (member_parts what))
  pub fits : used + r.count ≤ length names
  pub stays : Stays used names after

-- members stand in cells, and their tables fit
pub record PartsDue (levels : ℕ) (line names : List ℕ) (used stop : ℕ) (file : List ℕ) (b : Bodies) (n : Next) : Type 0 where
  pub parts : Parts
  pub cells : Cells levels line names used parts
  pub many_is : used + many parts ≡ stop
  pub ready : Ready file b n (parts_tables parts (numbers n))
  pub spare : stop + inside parts ≤ length names

pub record PartsWritten (levels : ℕ) (line names after : List ℕ) (used stop : ℕ) (before file : List ℕ) (b : Bodies) (n r : Next) : Type 0 where
  pub adds : (parts : Parts) → Cells levels line names used parts → used + many parts ≡ stop → Adds before file b n (parts_tables parts (numbers n)) r
  pub stays : Stays stop names after
