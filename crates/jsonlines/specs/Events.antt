-- What is told of an event's members, of a line and of a text
use Rattle.std.specs.Prelude.{◌≡◌, Bool, true, false, List, [], ◌∷◌, ℕ, suc, ◌-◌, ◌<◌, eqb, ltb, length, get_or, Result, Ok, Err}
use Rattle.std.proofs.Math.Option.{Option, none, some}
use Rattle.meaning.specs.Tests.{◌and◌, choose}
use Rattle.jsontext.specs.declared.Fault.TheVariants.{BadField}
use Rattle.jsontext.specs.declared.Bad.{Bad}
use Rattle.jsontext.specs.Reading.{Read, then, wrong}
use Rattle.jsontext.specs.Values.{object}
use Rattle.jsontext.specs.Events.{Event, Field, Time, Namespace, Action, Kind, Logged, Context, Principal, Resource, Entities, field_readers, is_field, field_by, Found, found, whole, complete, events, refused, log}
use Rattle.jsonkeys.specs.Keys.{KeyTold, MemberIs, MemberWrong}
use Rattle.jsonlines.specs.Fields.{FieldTold}

-- ---- a member

unfoldable pub number_of : Field → ℕ
number_of (Time z) = 0
number_of (Namespace ns) = 1
number_of (Action a) = 2
number_of (Kind k) = 3
number_of (Logged ps) = 4
number_of (Context ps) = 5
number_of (Principal j) = 6
number_of (Resource j) = 7
number_of (Entities es) = 8

-- its name, and where its value begins
pub record NameIs (line names next : List ℕ) (end at k v : ℕ) : Type 0 where
  pub field : FieldTold line at k
  pub key : KeyTold line names next 0 end at (ltb k 9) (Ok v)

pub record NameTold (line names next : List ℕ) (end at : ℕ) (r : Result (ℕ × ℕ) Bad) : Type 0 where
  pub read : (k v : ℕ) → r ≡ Ok (k, v) → NameIs line names next end at k v
  pub wrong : (b : Bad) → r ≡ Err b → MemberWrong (is_field field_readers) (field_by field_readers) line names next 0 end at b

-- its value read
pub record EntryIs (line names last : List ℕ) (end at k e : ℕ) : Type 0 where
  pub member : MemberIs (is_field field_readers) (field_by field_readers) line names last 0 end at e
  pub below : k < 9
  pub number : number_of member.what ≡ k

pub record EntryTold (line names last : List ℕ) (end at : ℕ) (r : Result (ℕ × ℕ) Bad) : Type 0 where
  pub read : (k e : ℕ) → r ≡ Ok (k, e) → EntryIs line names last end at k e
  pub wrong : (b : Bad) → r ≡ Err b → MemberWrong (is_field field_readers) (field_by field_readers) line names last 0 end at b

-- ---- which fields are there

unfoldable pub is_there : {A : Type 0} → Option A → Bool
is_there none = false
is_there (some a) = true

unfoldable pub bits : Found → List Bool
bits f =
    is_there f.time ∷ is_there f.namespace ∷ is_there f.action ∷ is_there f.kind ∷ is_there f.logged ∷ is_there f.context ∷ is_there f.principal
    ∷ is_there f.resource
    ∷ is_there f.entities
    ∷ []

-- all but principal and resource
unfoldable pub whole_bits : List Bool → Bool
whole_bits l = get_or l 0 false and (get_or l 1 false and (get_or l 2 false and (get_or l 3 false and (get_or l 4 false and (get_or l 5 false and get_or l 8 false)))))

unfoldable pub closed_by : ℕ → List Bool → Result ℕ Bad
closed_by at l = choose (whole_bits l) (Ok at) (Err (wrong BadField (at - 1)))

-- an event, after its brace
unfoldable pub event_of : List ℕ → Read Event
event_of s = then (object (is_field field_readers) (field_by field_readers) s) λ ms rest. complete (whole (found ms)) rest

-- ---- a text

-- how many bytes stand before the first LF
unfoldable pub line_length : List ℕ → ℕ
line_length [] = 0
line_length (c ∷ s) = choose (eqb c 10) 0 (suc (line_length s))

pub record LogIs (text : List ℕ) : Type 0 where
  pub what : List Event
  pub is : log text ≡ events what

pub record LogTold (text names after : List ℕ) (r : Result ℕ Bad) : Type 0 where
  pub good : (e : ℕ) → r ≡ Ok e → LogIs text
  pub wrong : (b : Bad) → r ≡ Err b → log text ≡ refused b.fault b.at b.first
  pub long : length after ≡ length names
