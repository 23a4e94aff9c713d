-- Paths through objects; context and scope
use Rattle.std.specs.Prelude.{true, false, List, [], ◌∷◌, ◌++◌, ℕ, eqb}
use Rattle.std.proofs.Math.Option.{Option, none, some}
use Rattle.meaning.specs.Below.{made}
use Rattle.meaning.specs.Tests.{◌and◌, only_if, or_else}
use Rattle.meaning.specs.Case.{Case, Value, Part, Point, Attributes, Null, Boolean, Int, Decimal, Text, Entity, Array, Object}
use Rattle.meaning.specs.declared.Root.{Root}
use Rattle.meaning.specs.declared.Root.TheVariants.{Principal, Resource}
use Rattle.meaning.specs.Equal.{Bound, part, bound_of, same_list}

unfoldable pub named : ℕ → List Part → Option ℕ
named n [] = none
named n (p ∷ ps) = elim (eqb n p.name) [ true ↦ some p.value | false ↦ named n ps ]

unfoldable pub members : Value → List Part
members Null = []
members (Boolean b) = []
members (Int z) = []
members (Decimal s) = []
members (Text s) = []
members (Entity t i) = []
members (Array ps) = []
members (Object ps) = ps

-- ---- logged fields: one member for each name

-- the value that a path of names reaches from value v
unfoldable pub descend : Case → ℕ → List ℕ → Option ℕ
descend c v [] = some v
descend c v (n ∷ ns) = elim (named n (members (c.value v))) [ none ↦ none | some u ↦ descend c u ns ]

-- ---- context and attributes: every member is written under its key, and the last one written stands

-- a path's key: its names, each behind a dot
unfoldable pub dotted : Case → List ℕ → List ℕ
dotted c [] = []
dotted c (n ∷ ns) = 46 ∷ c.text n ++ dotted c ns

-- keys, and the values written under them, in the order of writing
abbrev pub Entries : Type 0
Entries = List (List ℕ × ℕ)

-- each member in its order, under the key with the member's name behind it
unfoldable pub writes : Case → (ℕ → List ℕ → Entries) → List ℕ → List Part → Entries
writes c write key [] = []
writes c write key (p ∷ ps) = write p.value (key ++ (46 ∷ c.text p.name)) ++ writes c write key ps

-- what is written of value v under a key: an object's members, then the value itself
unfoldable pub written : Case → ℕ → List ℕ → Entries
written c = made (λ key. []) (λ write v key. writes c write key (members (c.value v)) ++ ((key, v) ∷ []))

-- the last value under a key
unfoldable pub last_under : List ℕ → Entries → Option ℕ
last_under key [] = none
last_under key (e ∷ es) = or_else (last_under key es) (only_if (same_list e.0 key) e.1)

-- the value that a path gives in object v
unfoldable pub lookup : Case → ℕ → List ℕ → Option ℕ
lookup c v path = last_under (dotted c path) (written c v [])

-- ---- what is found

unfoldable pub bound_at : Case → Option ℕ → Option Bound
bound_at c none = none
bound_at c (some v) = some (bound_of v (c.value v))

unfoldable pub attributes_of : ℕ → ℕ → List Attributes → Option ℕ
attributes_of t i [] = none
attributes_of t i (e ∷ es) = elim (eqb t e.type and eqb i e.id) [ true ↦ some e.object | false ↦ attributes_of t i es ]

-- `id` and `type` alone fall back to the entity's own parts
unfoldable pub own_part : Case → ℕ → ℕ → List ℕ → Option Bound
own_part c t i [] = none
own_part c t i (n ∷ []) =
    elim (same_list (c.text n) (105 ∷ 100 ∷ [])) [
      | true ↦ some (part i)
      | false ↦ elim (same_list (c.text n) (116 ∷ 121 ∷ 112 ∷ 101 ∷ [])) [ true ↦ some (part t) | false ↦ none ]
    ]
own_part c t i (n ∷ m ∷ ns) = none

unfoldable pub supplied : Case → Option ℕ → List ℕ → Option Bound
supplied c none path = none
supplied c (some object) path = bound_at c (lookup c object path)

unfoldable pub entity_of : Value → Option (ℕ × ℕ)
entity_of Null = none
entity_of (Boolean b) = none
entity_of (Int z) = none
entity_of (Decimal s) = none
entity_of (Text s) = none
entity_of (Entity t i) = some (t, i)
entity_of (Array ps) = none
entity_of (Object ps) = none

unfoldable pub attribute : Case → Point → ℕ → List ℕ → Option Bound
attribute c p v path =
    elim (entity_of (c.value v)) [
      | none ↦ none
      | some e ↦ or_else (supplied c (attributes_of e.0 e.1 p.entities) path) (own_part c e.0 e.1 path)
    ]

unfoldable pub from_root : Case → Point → Option ℕ → List ℕ → Option Bound
from_root c p none path = none
from_root c p (some v) [] = bound_at c (some v)
from_root c p (some v) (n ∷ ns) = attribute c p v (n ∷ ns)

unfoldable pub root_of : Point → Root → Option ℕ
root_of p Principal = p.principal
root_of p Resource = p.resource

unfoldable pub scope_at : Case → Point → Root → List ℕ → Option Bound
scope_at c p root path = from_root c p (root_of p root) path

unfoldable pub context_at : Case → Point → List ℕ → Option Bound
context_at c p path = bound_at c (lookup c p.context path)

unfoldable pub field_at : Case → Point → List ℕ → Option Bound
field_at c p path = bound_at c (descend c p.logged path)
