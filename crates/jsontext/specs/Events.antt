-- One event a line: the fields of a point (J4, J13), lines and places (J1 to J3)
use Rattle.std.specs.Prelude.{Bool, false, List, [], ◌∷◌, ℕ, suc, ◌+◌, ◌-◌, ℤ, eqb, length}
use Rattle.std.proofs.Math.Option.{Option, none, some}
use Rattle.meaning.specs.Tests.{◌or◌, choose}
use Rattle.meaning.specs.Equal.{same_list}
use Rattle.jsontext.specs.declared.Fault.{Fault}
use Rattle.jsontext.specs.declared.Fault.TheVariants.{NotJson, BadField}
use Rattle.jsontext.specs.Reading.{Read, got, fault, then, no, mapped, blanks, want}
use Rattle.jsontext.specs.Numbers.{number}
use Rattle.jsontext.specs.Values.{J, Parts, numeral, due, text, array, object, value, fields}

-- an entity: type, id, attributes
pub record Item : Type 0 where
  pub type : List ℕ
  pub id : List ℕ
  pub attributes : Parts

-- a point's fields
pub record Event : Type 0 where
  pub time : ℤ
  pub namespace : List (List ℕ)
  pub action : List ℕ
  pub kind : List ℕ
  pub logged : Parts
  pub context : Parts
  pub principal : Option J
  pub resource : Option J
  pub entities : List Item

-- ---- fields

-- a comma between an entity's items; its closing bracket comes too early, 23
unfoldable pub comma : List ℕ → Read ℕ
comma [] = no NotJson []
comma (c ∷ s) = choose (eqb c 93) (no BadField (c ∷ s)) (want 44 (c ∷ s))

-- an entity's closing bracket; a comma stands before a fourth item, 23
unfoldable pub closing : List ℕ → Read ℕ
closing [] = no NotJson []
closing (c ∷ s) = choose (eqb c 44) (no BadField (c ∷ s)) (want 93 (c ∷ s))

-- [ type, id, attributes ], after the bracket; none of them may be missing
unfoldable pub triple : List ℕ → Read Item
triple s =
    then (text s) λ type rest.
    then (comma (blanks rest)) λ c rest.
    then (text (blanks rest)) λ id rest.
    then (comma (blanks rest)) λ c rest.
    then (fields 31 (blanks rest)) λ attributes rest.
    then (closing (blanks rest)) λ c rest.
    got (record { type = type; id = id; attributes = attributes }) rest

unfoldable pub unless_none : List ℕ → Read Item
unless_none [] = no NotJson []
unless_none (c ∷ s) = choose (eqb c 93) (no BadField (c ∷ s)) (triple (c ∷ s))

-- an array, and nothing else, read by `inside` after its bracket
abbrev pub listed : {A : Type 0} → (List ℕ → Read A) → List ℕ → Read A
listed inside s = due BadField (λ c. eqb c 91) (λ t. then (want 91 t) λ bracket rest. inside rest) s

pub data Field : Type 0 where
  Time : ℤ → Field
  Namespace : List (List ℕ) → Field
  Action : List ℕ → Field
  Kind : List ℕ → Field
  Logged : Parts → Field
  Context : Parts → Field
  Principal : J → Field
  Resource : J → Field
  Entities : List Item → Field

-- time, namespace, action, kind, logged, context, principal, resource, entities: each with the reader of its value
unfoldable pub field_readers : List (List ℕ × (List ℕ → Read Field))
field_readers =
    (116 ∷ 105 ∷ 109 ∷ 101 ∷ [], λ s. mapped Time (due BadField numeral number s))
    ∷ (110 ∷ 97 ∷ 109 ∷ 101 ∷ 115 ∷ 112 ∷ 97 ∷ 99 ∷ 101 ∷ [], λ s. mapped Namespace (listed (array text) s))
    ∷ (97 ∷ 99 ∷ 116 ∷ 105 ∷ 111 ∷ 110 ∷ [], λ s. mapped Action (text s))
    ∷ (107 ∷ 105 ∷ 110 ∷ 100 ∷ [], λ s. mapped Kind (text s))
    ∷ (108 ∷ 111 ∷ 103 ∷ 103 ∷ 101 ∷ 100 ∷ [], λ s. mapped Logged (fields 31 s))
    ∷ (99 ∷ 111 ∷ 110 ∷ 116 ∷ 101 ∷ 120 ∷ 116 ∷ [], λ s. mapped Context (fields 31 s))
    ∷ (112 ∷ 114 ∷ 105 ∷ 110 ∷ 99 ∷ 105 ∷ 112 ∷ 97 ∷ 108 ∷ [], λ s. mapped Principal (value 32 s))
    ∷ (114 ∷ 101 ∷ 115 ∷ 111 ∷ 117 ∷ 114 ∷ 99 ∷ 101 ∷ [], λ s. mapped Resource (value 32 s))
    ∷ (101 ∷ 110 ∷ 116 ∷ 105 ∷ 116 ∷ 105 ∷ 101 ∷ 115 ∷ [], λ s. mapped Entities (listed (array (listed (λ t. unless_none (blanks t)))) s))
    ∷ []

unfoldable pub is_field : List (List ℕ × (List ℕ → Read Field)) → List ℕ → Bool
is_field [] n = false
is_field (r ∷ rs) n = same_list r.0 n or is_field rs n

unfoldable pub field_by : List (List ℕ × (List ℕ → Read Field)) → List ℕ → List ℕ → Read Field
field_by [] n s = no BadField s
field_by (r ∷ rs) n s = choose (same_list r.0 n) (r.1 s) (field_by rs n s)

-- ---- an event

-- the fields that were read
pub record Found : Type 0 where
  pub time : Option ℤ
  pub namespace : Option (List (List ℕ))
  pub action : Option (List ℕ)
  pub kind : Option (List ℕ)
  pub logged : Option Parts
  pub context : Option Parts
  pub principal : Option J
  pub resource : Option J
  pub entities : Option (List Item)

unfoldable pub with : Found → Field → Found
with f (Time z) = record { time = some z; namespace = f.namespace; action = f.action; kind = f.kind; logged = f.logged; context = f.context; principal = f.principal; resource = f.resource; entities = f.entities }
with f (Namespace ns) = record { time = f.time; namespace = some ns; action = f.action; kind = f.kind; logged = f.logged; context = f.context; principal = f.principal; resource = f.resource; entities = f.entities }
with f (Action a) = record { time = f.time; namespace = f.namespace; action = some a; kind = f.kind; logged = f.logged; context = f.context; principal = f.principal; resource = f.resource; entities = f.entities }
with f (Kind k) = record { time = f.time; namespace = f.namespace; action = f.action; kind = some k; logged = f.logged; context = f.context; principal = f.principal; resource = f.resource; entities = f.entities }
with f (Logged ps) = record { time = f.time; namespace = f.namespace; action = f.action; kind = f.kind; logged = some ps; context = f.context; principal = f.principal; resource = f.resource; entities = f.entities }
with f (Context ps) = record { time = f.time; namespace = f.namespace; action = f.action; kind = f.kind; logged = f.logged; context = some ps; principal = f.principal; resource = f.resource; entities = f.entities }
with f (Principal j) = record { time = f.time; namespace = f.namespace; action = f.action; kind = f.kind; logged = f.logged; context = f.context; principal = some j; resource = f.resource; entities = f.entities }
with f (Resource j) = record { time = f.time; namespace = f.namespace; action = f.action; kind = f.kind; logged = f.logged; context = f.context; principal = f.principal; resource = some j; entities = f.entities }
with f (Entities es) = record { time = f.time; namespace = f.namespace; action = f.action; kind = f.kind; logged = f.logged; context = f.context; principal = f.principal; resource = f.resource; entities = some es }

unfoldable pub found : List (List ℕ × Field) → Found
found [] = record { time = none; namespace = none; action = none; kind = none; logged = none; context = none; principal = none; resource = none; entities = none }
found (m ∷ ms) = with (found ms) m.1

-- none but principal and resource may be missing
unfoldable pub have : {A B : Type 0} → Option A → (A → Option B) → Option B
have none f = none
have (some a) f = f a

unfoldable pub whole : Found → Option Event
whole f =
    have f.time λ time.
    have f.namespace λ namespace.
    have f.action λ action.
    have f.kind λ kind.
    have f.logged λ logged.
    have f.context λ context.
    have f.entities λ entities.
    some (record { time = time; namespace = namespace; action = action; kind = kind; logged = logged; context = context; principal = f.principal; resource = f.resource; entities = entities })

-- 23 at the closing brace where a field is missing
unfoldable pub complete : Option Event → List ℕ → Read Event
complete none rest = fault BadField (suc (length rest)) (suc (length rest))
complete (some e) rest = got e rest

-- from the brace on
unfoldable pub event : List ℕ → Read Event
event s =
    then (want 123 s) λ brace rest.
    then (object (is_field field_readers) (field_by field_readers) rest) λ ms rest.
    complete (whole (found ms)) rest

-- ---- lines

-- nothing more on the line
unfoldable pub ended : Event → List ℕ → Read Event
ended e [] = got e []
ended e (c ∷ s) = no NotJson (c ∷ s)

-- JSON-text = ws value ws
unfoldable pub line : List ℕ → Read Event
line s = then (due BadField (λ c. eqb c 123) event (blanks s)) λ e rest. ended e (blanks rest)

-- J1: the lines of a text, without their LF; nothing after the last LF is no line
unfoldable pub onto : ℕ → List (List ℕ) → List (List ℕ)
onto c [] = (c ∷ []) ∷ []
onto c (l ∷ ls) = (c ∷ l) ∷ ls

unfoldable pub cut : List ℕ → List (List ℕ)
cut [] = []
cut (c ∷ s) = choose (eqb c 10) ([] ∷ cut s) (onto c (cut s))

-- the events of a text; or what is wrong, where, and where the first of two equal names stands
pub data Log : Type 0 where
  events : List Event → Log
  refused : Fault → ℕ → ℕ → Log

unfoldable pub with_event : Event → Log → Log
with_event e (events es) = events (e ∷ es)
with_event e (refused w at first) = refused w at first

-- the lines from a place on
unfoldable pub lines : ℕ → List (List ℕ) → Log
lines at [] = events []
lines at (l ∷ ls) =
    elim (line l) [
      | got e rest ↦ with_event e (lines (at + length l + 1) ls)
      | fault w left first ↦ refused w (at + length l - left) (at + length l - first)
    ]

unfoldable pub log : List ℕ → Log
log s = lines 0 (cut s)
