-- Where the fields of a good line stand
use Rattle.std.specs.Prelude.{◌≡◌, List, ℕ, ◌<◌, ◌≤◌, length, drop}
use Rattle.std.proofs.Math.Option.{Option, none, some}
use Rattle.jsontext.specs.declared.Fault.TheVariants.{BadField}
use Rattle.jsontext.specs.Reading.{Read, got}
use Rattle.jsontext.specs.Numbers.{number}
use Rattle.jsontext.specs.Values.{J, numeral, due, text, array, value as value·Values, fields}
use Rattle.jsontext.specs.Events.{Event, listed, line as line_of}
use Rattle.jsoncount.specs.Sizes.{entity_read}
use Rattle.jsonentry.specs.declared.Fields.{Fields}

-- at a place this is read
pub record Stands {A : Type 0} (line : List ℕ) (at : ℕ) (reader : List ℕ → Read A) (what : A) : Type 0 where
  pub rest : List ℕ
  pub within : at ≤ length line
  pub is : reader (drop at line) ≡ got what rest

-- a field that may be missing
pub record StandsThere (line : List ℕ) (at : ℕ) (what : Option J) : Type 0 where
  pub value : J
  pub there : what ≡ some value
  pub stands : Stands line at (value·Values 32) value

pub record MayStand (line : List ℕ) (at : ℕ) (what : Option J) : Type 0 where
  pub missing : at ≡ 0 → what ≡ none
  pub there : 0 < at → StandsThere line at what

pub record FieldsStand (line : List ℕ) (f : Fields) (e : Event) : Type 0 where
  pub time : Stands line f.time (due BadField numeral number) e.time
  pub namespace : Stands line f.namespace (listed (array text)) e.namespace
  pub action : Stands line f.action text e.action
  pub kind : Stands line f.kind text e.kind
  pub logged : Stands line f.logged (fields 31) e.logged
  pub context : Stands line f.context (fields 31) e.context
  pub principal : MayStand line f.principal e.principal
  pub resource : MayStand line f.resource e.resource
  pub entities : Stands line f.entities (listed (array entity_read)) e.entities

-- of a good line
pub record FieldsTold (line : List ℕ) (f : Fields) : Type 0 where
  pub is : (e : Event) (rest : List ℕ) → line_of line ≡ got e rest → FieldsStand line f e
