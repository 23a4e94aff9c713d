-- A string that is named by a list word, an entity, and entities: what is due, and what was written
use Rattle.std.specs.Prelude.{◌≡◌, List, [], ◌∷◌, ℕ, ◌≤◌, length, drop}
use Rattle.jsontext.specs.Reading.{Read, got, blanks}
use Rattle.jsontext.specs.Strings.{string}
use Rattle.jsontext.specs.Values.{Parts, Object, fields}
use Rattle.jsontext.specs.Events.{Item}
use Rattle.jsontrace.specs.Order.{ordered_members}
use Rattle.jsontrace.specs.Trace.{Tables, ◌⊕◌, texts, lists, Next as Next-as_Trace, past, last_value, value_adds, entity_adds}
use Rattle.jsonroom.specs.declared.Bodies.{Bodies}
use Rattle.jsonroom.specs.declared.Next.{Next}
use Rattle.jsoncount.specs.Sizes.{entity_read}
use Rattle.jsonview.specs.Room.{numbers}
use Rattle.jsonadds.specs.Place.{Spare, Stays, named}
use Rattle.jsonentry.specs.Marks.{MarkReady, MarkAdds}
use Rattle.jsonentities.specs.Order.{arranged_item}

-- ---- what is added

-- a string, and the list word that names it
unfoldable pub named_tables : List ℕ → Next-as_Trace → Tables
named_tables t k = texts (t ∷ []) ⊕ lists ((k.string, 1) ∷ [])

-- type and id, each with its word
unfoldable pub keys_tables : Item → Next-as_Trace → Tables
keys_tables i k = named_tables i.type k ⊕ named_tables i.id (past k (named_tables i.type k))

-- attributes, and the word that names them
unfoldable pub attributes_tables : Parts → Next-as_Trace → Tables
attributes_tables ps k = let t = value_adds (Object (ordered_members ps)) k in t ⊕ lists ((last_value k t, 0) ∷ [])

unfoldable pub entity_tables : Item → Next-as_Trace → Tables
entity_tables i k = entity_adds (arranged_item i) k

-- names inside
unfoldable pub named_fields : Parts → ℕ
named_fields ps = named (Object ps)

unfoldable pub named_item : Item → ℕ
named_item i = named_fields i.attributes

-- ---- what is due, and what was written

-- a part that reads well stands here, and its tables fit with their marks
pub record MarkDue {A : Type 0} (line : List ℕ) (at : ℕ) (m : Read A) (file marks : List ℕ) (b : Bodies) (n : Next) (tables : A → Next-as_Trace → Tables) : Type 0 where
  pub what : A
  pub rest : List ℕ
  pub within : at ≤ length line
  pub is : m ≡ got what rest
  pub ready : MarkReady file marks b n (tables what (numbers n))

-- what was read up to the end is written
pub record MarkWrote {A : Type 0} (line : List ℕ) (at : ℕ) (m : Read A) (before after marks marks' : List ℕ) (b : Bodies) (n : Next) (tables : A → Next-as_Trace → Tables) (next : Next) (e : ℕ) : Type 0 where
  pub from : at ≤ e
  pub within : e ≤ length line
  pub is : (what : A) (rest : List ℕ) → m ≡ got what rest → rest ≡ drop e line
  pub adds : (what : A) (rest : List ℕ) → m ≡ got what rest → MarkAdds before after marks marks' b n (tables what (numbers n)) next

-- a string and a byte behind it stand here, and the string fits
pub record SignedDue (line : List ℕ) (at : ℕ) (file marks : List ℕ) (b : Bodies) (n : Next) : Type 0 where
  pub due : MarkDue line at (string (drop at line)) file marks b n named_tables
  pub sign : ℕ
  pub others : List ℕ
  pub byte : blanks due.rest ≡ sign ∷ others

-- the string is written, and what stands behind that byte begins at the end
pub record SignedWritten (line : List ℕ) (at : ℕ) (before after marks marks' : List ℕ) (b : Bodies) (n next : Next) (e : ℕ) : Type 0 where
  pub within : e ≤ length line
  pub is : (what rest : List ℕ) (sign : ℕ) (others : List ℕ) → string (drop at line) ≡ got what rest → blanks rest ≡ sign ∷ others → drop e line ≡ blanks others
  pub adds : (what rest : List ℕ) → string (drop at line) ≡ got what rest → MarkAdds before after marks marks' b n (named_tables what (numbers n)) next

-- type and id are written, and the attributes begin at the end
pub record Attributes (line : List ℕ) (at : ℕ) (ps : Parts) : Type 0 where
  pub left : List ℕ
  pub is : fields 31 (drop at line) ≡ got ps left

pub record KeysWritten (line : List ℕ) (at : ℕ) (before after marks marks' : List ℕ) (b : Bodies) (n next : Next) (e : ℕ) : Type 0 where
  pub within : e ≤ length line
  pub is : (what : Item) (rest : List ℕ) → entity_read (drop at line) ≡ got what rest → Attributes line e what.attributes
  pub adds : (what : Item) (rest : List ℕ) → entity_read (drop at line) ≡ got what rest → MarkAdds before after marks marks' b n (keys_tables what (numbers n)) next

-- with cells for the names inside
pub record HeldDue {A : Type 0} (line : List ℕ) (at : ℕ) (m : Read A) (file marks : List ℕ) (b : Bodies) (n : Next) (tables : A → Next-as_Trace → Tables) (names : List ℕ) (used : ℕ) (count : A → ℕ) : Type 0 where
  pub due : MarkDue line at m file marks b n tables
  pub spare : Spare m names used count

-- what was read is written, wherever it ends; cells below are as they were
pub record HeldWritten {A : Type 0} (m : Read A) (before after marks marks' : List ℕ) (b : Bodies) (n : Next) (tables : A → Next-as_Trace → Tables) (r : Next) (used : ℕ) (names names' : List ℕ) : Type 0 where
  pub adds : (what : A) (rest : List ℕ) → m ≡ got what rest → MarkAdds before after marks marks' b n (tables what (numbers n)) r
  pub stays : Stays used names names'
