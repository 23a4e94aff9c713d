-- What entities, a line and a log add to the tables, written
use Rattle.std.specs.Prelude.{◌≡◌, List, [], ◌∷◌, ℕ, suc, ◌+◌, ◌*◌, ◌≤◌, length}
use Rattle.jsontext.specs.Reading.{Read, got}
use Rattle.jsontext.specs.Values.{Object}
use Rattle.jsontext.specs.Events.{Item, Event, events, log, line as line_of}
use Rattle.jsontrace.specs.Order.{arranged, ordered_entities}
use Rattle.jsontrace.specs.Trace.{entities_add, event_adds, tables_of}
use Rattle.jsonroom.specs.declared.Bodies.{Bodies}
use Rattle.jsonroom.specs.declared.Next.{Next}
use Rattle.jsonview.specs.Room.{numbers}
use Rattle.jsonadds.specs.Place.{named}
use Rattle.jsonentry.specs.Marks.{MarkReady, MarkAdds}

-- nothing was written yet
unfoldable pub unwritten : Next
unwritten = record { string = 0; byte = 0; value = 0; member = 0; list = 0; point = 0 }

-- ---- entities, after their bracket

-- cells for entities, and for the names inside them
unfoldable pub named_entities : List Item → ℕ
named_entities [] = 0
named_entities (i ∷ is) = suc (named (Object i.attributes) + named_entities is)

pub record EntitiesDue (line : List ℕ) (at : ℕ) (m : Read (List Item)) (names file marks : List ℕ) (b : Bodies) (n : Next) : Type 0 where
  pub what : List Item
  pub rest : List ℕ
  pub within : at ≤ length line
  pub is : m ≡ got what rest
  pub ready : MarkReady file marks b n (entities_add (ordered_entities what) (numbers n))
  pub spare : named_entities what ≤ length names

pub record EntitiesWritten (m : Read (List Item)) (names names' before after marks marks' : List ℕ) (b : Bodies) (n next : Next) (count : ℕ) : Type 0 where
  pub long : length names' ≡ length names
  pub many : (what : List Item) (rest : List ℕ) → m ≡ got what rest → count ≡ length what
  pub adds : (what : List Item) (rest : List ℕ) → m ≡ got what rest → MarkAdds before after marks marks' b n (entities_add (ordered_entities what) (numbers n)) next

-- ---- a line

pub record LineDue (line names file marks : List ℕ) (b : Bodies) (n : Next) : Type 0 where
  pub what : Event
  pub rest : List ℕ
  pub is : line_of line ≡ got what rest
  pub ready : MarkReady file marks b n (event_adds (arranged what) (numbers n))
  pub cells : length line ≤ 4 * length names

pub record LineWritten (line names names' before after marks marks' : List ℕ) (b : Bodies) (n r : Next) : Type 0 where
  pub long : length names' ≡ length names
  pub adds : (what : Event) (rest : List ℕ) → line_of line ≡ got what rest → MarkAdds before after marks marks' b n (event_adds (arranged what) (numbers n)) r

-- ---- a log

pub record LogDue (text names file marks : List ℕ) (b : Bodies) : Type 0 where
  pub what : List Event
  pub is : log text ≡ events what
  pub ready : MarkReady file marks b unwritten (tables_of what)
  pub cells : length text ≤ 4 * length names

pub record LogWritten (text names names' before after marks marks' : List ℕ) (b : Bodies) (r : Next) : Type 0 where
  pub long : length names' ≡ length names
  pub adds : (what : List Event) → log text ≡ events what → MarkAdds before after marks marks' b unwritten (tables_of what) r
