-- The trace of a log: an unsorted case (#101) with V 0 and no nodes, one point an event, and a mark for each list word (J17)
use Rattle.std.specs.Prelude.{List, [], ◌∷◌, ◌++◌, map, ℕ, suc, ◌+◌, ◌-◌, ◌/◌, ◌%◌, ℤ, length}
use Rattle.std.proofs.Math.Option.{Option, none, some}
use Rattle.std.proofs.Common.{of_z}
use Rattle.std.specs.Int.{w64}
use Rattle.meaning.specs.Tests.{choose}
use Rattle.meaning.specs.Case.{nothing, places}
use Rattle.encode.specs.Words.{packed}
use Rattle.encode.specs.Encode.{flat, placed, encoded}
use Rattle.jsontext.specs.Values.{J, Null, Truth, Int, Text, EntityOf, Decimal, Array, Object, Parts, end, part}
use Rattle.jsontext.specs.Events.{Item, Event}
use Rattle.jsontrace.specs.Order.{arranged}

-- ---- tables that grow

-- records in the order of their numbers: strings by their bytes; values, members and points by their words; list words, each with its mark
pub record Tables : Type 0 where
  pub texts : List (List ℕ)
  pub values : List (List ℕ)
  pub members : List (List ℕ)
  pub points : List (List ℕ)
  pub lists : List (ℕ × ℕ)

unfoldable pub empty : Tables
empty = record { texts = []; values = []; members = []; points = []; lists = [] }

-- each table continued
infixr 20 ◌⊕◌
unfoldable pub ◌⊕◌ : Tables → Tables → Tables
t ⊕ u = record {
  texts = t.texts ++ u.texts;
  values = t.values ++ u.values;
  members = t.members ++ u.members;
  points = t.points ++ u.points;
  lists = t.lists ++ u.lists;
}

-- records for one table alone
unfoldable pub texts : List (List ℕ) → Tables
texts ts = record { texts = ts; values = []; members = []; points = []; lists = [] }

unfoldable pub value : ℕ → ℕ → ℕ → Tables
value kind a b = record { texts = []; values = (kind ∷ a ∷ b ∷ 0 ∷ []) ∷ []; members = []; points = []; lists = [] }

unfoldable pub members : List (List ℕ) → Tables
members ms = record { texts = []; values = []; members = ms; points = []; lists = [] }

unfoldable pub point : List ℕ → Tables
point ws = record { texts = []; values = []; members = []; points = ws ∷ []; lists = [] }

unfoldable pub lists : List (ℕ × ℕ) → Tables
lists ws = record { texts = []; values = []; members = []; points = []; lists = ws }

-- how many strings, values, members and list words stand before: the numbers that the next ones get
pub record Next : Type 0 where
  pub string : ℕ
  pub value : ℕ
  pub member : ℕ
  pub list : ℕ

unfoldable pub first : Next
first = record { string = 0; value = 0; member = 0; list = 0 }

unfoldable pub past : Next → Tables → Next
past n t = record {
  string = n.string + length t.texts;
  value = n.value + length t.values;
  member = n.member + length t.members;
  list = n.list + length t.lists;
}

-- the number of the value whose tables these are: its own record is the last
unfoldable pub last_value : Next → Tables → ℕ
last_value n t = n.value + length t.values - 1

-- ---- values

unfoldable pub low : ℤ → ℕ
low z = of_z w64 z % 4294967296

unfoldable pub high : ℤ → ℕ
high z = of_z w64 z / 4294967296

unfoldable pub many : Parts → ℕ
many end = 0
many (part n j ps) = suc (many ps)

-- the run of an array or object, then its children's records, then its own: kind, first member, how many
unfoldable pub holding : ℕ → Next → ℕ → List (List ℕ) × Tables → Tables
holding kind n count inside = members inside.0 ⊕ inside.1 ⊕ value kind n.member count

-- after a run of so many members
unfoldable pub after_run : Next → ℕ → Next
after_run n count = record { string = n.string; value = n.value; member = n.member + count; list = n.list }

-- what a value adds, where these numbers are the next; its own record comes after its children's
unfoldable mutual
  pub value_adds : J → Next → Tables
  value_adds Null n = value 0 0 0
  value_adds (Truth b) n = value 1 (choose b 1 0) 0
  value_adds (Int z) n = value 2 (low z) (high z)
  value_adds (Decimal t) n = texts (t ∷ []) ⊕ value 3 n.string 0
  value_adds (Text t) n = texts (t ∷ []) ⊕ value 4 n.string 0
  value_adds (EntityOf t i) n = texts (t ∷ i ∷ []) ⊕ value 5 n.string (n.string + 1)
  value_adds (Array ps) n = holding 6 n (many ps) (items_add ps (after_run n (many ps)))
  value_adds (Object ps) n = holding 7 n (many ps) (members_add ps (after_run n (many ps)))

  -- the member records of items, and what the items add
  pub items_add : Parts → Next → List (List ℕ) × Tables
  items_add end n = ([], empty)
  items_add (part m j ps) n =
      let t = value_adds j n in
      let more = items_add ps (past n t) in
      ((nothing ∷ last_value n t ∷ []) ∷ more.0, t ⊕ more.1)

  -- of a member the name comes first, then its value
  pub members_add : Parts → Next → List (List ℕ) × Tables
  members_add end n = ([], empty)
  members_add (part m j ps) n =
      let name = texts (m ∷ []) in
      let t = value_adds j (past n name) in
      let more = members_add ps (past (past n name) t) in
      ((n.string ∷ last_value n t ∷ []) ∷ more.0, name ⊕ t ⊕ more.1)

-- a value that may be missing, and the word that names it
unfoldable pub maybe_adds : Option J → Next → Tables
maybe_adds none n = empty
maybe_adds (some j) n = value_adds j n

unfoldable pub maybe_number : Option J → Next → ℕ
maybe_number none n = nothing
maybe_number (some j) n = last_value n (value_adds j n)

-- ---- events

-- list words that name strings from a number on
unfoldable pub naming : ℕ → ℕ → List (ℕ × ℕ)
naming from count = map (λ k. (k, 1)) (places from 1 count)

-- type, id, attributes
unfoldable pub entity_adds : Item → Next → Tables
entity_adds i n =
    let names = texts (i.type ∷ i.id ∷ []) in
    let t = value_adds (Object i.attributes) (past n names) in
    names ⊕ t ⊕ lists (naming n.string 2 ++ ((last_value n t, 0) ∷ []))

unfoldable pub entities_add : List Item → Next → Tables
entities_add [] n = empty
entities_add (i ∷ is) n = let t = entity_adds i n in t ⊕ entities_add is (past n t)

-- fields in 01's order
unfoldable pub event_adds : Event → Next → Tables
event_adds e n =
    let spaces = length e.namespace in
    let names = texts (e.namespace ++ (e.action ∷ e.kind ∷ [])) ⊕ lists (naming n.string spaces) in
    let n1 = past n names in
    let logged = value_adds (Object e.logged) n1 in
    let n2 = past n1 logged in
    let context = value_adds (Object e.context) n2 in
    let n3 = past n2 context in
    let principal = maybe_adds e.principal n3 in
    let n4 = past n3 principal in
    let resource = maybe_adds e.resource n4 in
    let n5 = past n4 resource in
    names ⊕ logged ⊕ context ⊕ principal ⊕ resource ⊕ entities_add e.entities n5
    ⊕ point (
    low e.time ∷ high e.time
    ∷ n.list ∷ spaces
    ∷ (n.string + spaces) ∷ (n.string + spaces + 1)
    ∷ last_value n1 logged ∷ last_value n2 context
    ∷ maybe_number e.principal n3 ∷ maybe_number e.resource n4
    ∷ n5.list ∷ length e.entities ∷ []
    )

unfoldable pub events_add : List Event → Next → Tables
events_add [] n = empty
events_add (e ∷ es) n = let t = event_adds e n in t ⊕ events_add es (past n t)

-- ---- the file and its marks

unfoldable pub bodies_of : Tables → List (List ℕ)
bodies_of t =
    packed (placed 0 t.texts)
    ∷ packed (flat t.values)
    ∷ packed (flat t.members)
    ∷ packed (flat t.points)
    ∷ []
    ∷ packed (map (λ w. w.0) t.lists)
    ∷ flat t.texts
    ∷ []

unfoldable pub tables_of : List Event → Tables
tables_of es = events_add (map arranged es) first

unfoldable pub trace : List Event → List ℕ
trace es = encoded 0 (bodies_of (tables_of es))

unfoldable pub trace_marks : List Event → List ℕ
trace_marks es = map (λ w. w.1) (tables_of es).lists
