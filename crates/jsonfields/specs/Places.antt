-- Where the members of an event stand
use Rattle.std.specs.Prelude.{◌≡◌, List, ℕ, ◌<◌, ◌≤◌, eqb, ltb, length, drop, get_or}
use Rattle.meaning.specs.Tests.{choose}
use Rattle.jsontext.specs.Reading.{got}
use Rattle.jsontext.specs.Events.{Event, Field, field_readers, is_field, field_by}
use Rattle.jsonruns.specs.Run.{Member}
use Rattle.jsonlines.specs.Fields.{reader_at}
use Rattle.jsonlines.specs.Events.{number_of, event_of}
use Rattle.jsonentry.specs.declared.Fields.{Fields}
use Rattle.jsonentry.specs.Fields.{FieldsStand}
use Rattle.jsonfields.specs.declared.places.Entry.{Entry}

-- levels of a field's value: attributes stand in an entity, and entities in an array
unfoldable pub levels_of : ℕ → ℕ
levels_of field = choose (ltb field 8) 32 34

-- the first of two places; 0 is none
unfoldable pub first_place : ℕ → ℕ → ℕ
first_place old new = choose (eqb old 0) new old

abbrev pub fields_from : List ℕ → Fields
fields_from l = record {
  time = get_or l 0 0;
  namespace = get_or l 1 0;
  action = get_or l 2 0;
  kind = get_or l 3 0;
  logged = get_or l 4 0;
  context = get_or l 5 0;
  principal = get_or l 6 0;
  resource = get_or l 7 0;
  entities = get_or l 8 0;
}

-- ---- a member

abbrev pub EntryOf : List ℕ → List ℕ × Field → List ℕ → Type 0
EntryOf s m t = Member (is_field field_readers) (field_by field_readers) s m t

-- one stands here
pub record EntryGood (line : List ℕ) (at : ℕ) : Type 0 where
  pub what : List ℕ × Field
  pub after : List ℕ
  pub within : at ≤ length line
  pub is : EntryOf (drop at line) what after

-- its value stands there
pub record EntryIs (line : List ℕ) (r : Entry) (what : List ℕ × Field) (after : List ℕ) : Type 0 where
  pub number : number_of what.1 ≡ r.field
  pub reads : reader_at r.field (drop r.value line) ≡ got what.1 after
  pub ends : after ≡ drop r.end line

pub record EntryTold (line : List ℕ) (at : ℕ) (r : Entry) : Type 0 where
  pub below : r.field < 9
  pub far : at < r.value
  pub from : r.value ≤ r.end
  pub within : r.end ≤ length line
  pub is : (what : List ℕ × Field) (after : List ℕ) → EntryOf (drop at line) what after → EntryIs line r what after

-- ---- all of them

-- of a good event, after its brace
pub record EventTold (line : List ℕ) (at : ℕ) (f : Fields) : Type 0 where
  pub is : (e : Event) (rest : List ℕ) → event_of (drop at line) ≡ got e rest → FieldsStand line f e
