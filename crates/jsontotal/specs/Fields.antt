-- What the members of an event add
use Rattle.std.specs.Prelude.{List, ℕ, ℤ}
use Rattle.jsontext.specs.Reading.{Read}
use Rattle.jsontext.specs.Values.{object}
use Rattle.jsontext.specs.Events.{Field, Time, Namespace, Action, Kind, Logged, Context, Principal, Resource, Entities, field_readers, is_field, field_by}
use Rattle.jsontrace.specs.Count.{Count, nothing, a_string, counted, counted_entities}
use Rattle.jsoncount.specs.Tally.{sizes}
use Rattle.jsoncount.specs.Sizes.{texts_size, fields_size}

unfoldable pub time_size : ℤ → Count
time_size z = nothing

unfoldable pub field_size : Field → Count
field_size (Time z) = time_size z
field_size (Namespace ns) = texts_size ns
field_size (Action a) = a_string a
field_size (Kind k) = a_string k
field_size (Logged ps) = fields_size ps
field_size (Context ps) = fields_size ps
field_size (Principal j) = counted j
field_size (Resource j) = counted j
field_size (Entities es) = counted_entities es

-- a member's name adds nothing
unfoldable pub entry_size : List ℕ × Field → Count
entry_size m = field_size m.1

-- all members, after the brace
unfoldable pub entries_read : List ℕ → Read (List (List ℕ × Field))
entries_read s = object (is_field field_readers) (field_by field_readers) s

abbrev pub entries_size : List (List ℕ × Field) → Count
entries_size ms = sizes entry_size ms
