-- How many records each event adds, counted as it is read, in any order: what pass one knows before the first byte is written
use Rattle.std.specs.Prelude.{List, [], ◌∷◌, ℕ, ◌+◌, ◌*◌, length}
use Rattle.std.proofs.Math.Option.{Option, none, some}
use Rattle.jsontext.specs.Values.{J, Null, Truth, Int, Text, EntityOf, Decimal, Array, Object, Parts, end, part}
use Rattle.jsontext.specs.Events.{Item, Event}

-- strings and their bytes, values, members, points, list words
pub record Count : Type 0 where
  pub strings : ℕ
  pub bytes : ℕ
  pub values : ℕ
  pub members : ℕ
  pub points : ℕ
  pub lists : ℕ

unfoldable pub nothing : Count
nothing = record { strings = 0; bytes = 0; values = 0; members = 0; points = 0; lists = 0 }

infixr 20 ◌⊞◌
unfoldable pub ◌⊞◌ : Count → Count → Count
c ⊞ d = record {
  strings = c.strings + d.strings;
  bytes = c.bytes + d.bytes;
  values = c.values + d.values;
  members = c.members + d.members;
  points = c.points + d.points;
  lists = c.lists + d.lists;
}

-- one of each
unfoldable pub a_string : List ℕ → Count
a_string t = record { strings = 1; bytes = length t; values = 0; members = 0; points = 0; lists = 0 }

unfoldable pub a_value : Count
a_value = record { strings = 0; bytes = 0; values = 1; members = 0; points = 0; lists = 0 }

unfoldable pub a_member : Count
a_member = record { strings = 0; bytes = 0; values = 0; members = 1; points = 0; lists = 0 }

unfoldable pub a_point : Count
a_point = record { strings = 0; bytes = 0; values = 0; members = 0; points = 1; lists = 0 }

unfoldable pub list_words : ℕ → Count
list_words n = record { strings = 0; bytes = 0; values = 0; members = 0; points = 0; lists = n }

unfoldable mutual
  pub counted : J → Count
  counted Null = a_value
  counted (Truth b) = a_value
  counted (Int z) = a_value
  counted (Text t) = a_string t ⊞ a_value
  counted (EntityOf t i) = a_string t ⊞ a_string i ⊞ a_value
  counted (Decimal t) = a_string t ⊞ a_value
  counted (Array ps) = counted_items ps ⊞ a_value
  counted (Object ps) = counted_members ps ⊞ a_value

  pub counted_items : Parts → Count
  counted_items end = nothing
  counted_items (part n j ps) = a_member ⊞ counted j ⊞ counted_items ps

  pub counted_members : Parts → Count
  counted_members end = nothing
  counted_members (part n j ps) = a_member ⊞ a_string n ⊞ counted j ⊞ counted_members ps

unfoldable pub counted_maybe : Option J → Count
counted_maybe none = nothing
counted_maybe (some j) = counted j

unfoldable pub counted_strings : List (List ℕ) → Count
counted_strings [] = nothing
counted_strings (t ∷ ts) = a_string t ⊞ counted_strings ts

unfoldable pub counted_entities : List Item → Count
counted_entities [] = nothing
counted_entities (i ∷ is) =
    a_string i.type ⊞ a_string i.id ⊞ counted (Object i.attributes) ⊞ list_words 3 ⊞ counted_entities is

unfoldable pub counted_event : Event → Count
counted_event e =
    counted_strings e.namespace ⊞ list_words (length e.namespace) ⊞ a_string e.action ⊞ a_string e.kind
    ⊞ counted (Object e.logged) ⊞ counted (Object e.context)
    ⊞ counted_maybe e.principal ⊞ counted_maybe e.resource ⊞ counted_entities e.entities ⊞ a_point

unfoldable pub counted_events : List Event → Count
counted_events [] = nothing
counted_events (e ∷ es) = counted_event e ⊞ counted_events es

-- bytes of the trace: 64 of contents, then a record of each table
unfoldable pub trace_bytes : Count → ℕ
trace_bytes c = 64 + 8 * c.strings + 16 * c.values + 8 * c.members + 48 * c.points + 4 * c.lists + c.bytes
