-- The export call, for every input: a case's points as events, and what is said and written (J20 to J23)
use Rattle.std.specs.Prelude.{Bool, true, not, List, [], ◌∷◌, map, ℕ, leb, eqb, length, Result, Ok, Err}
use Rattle.std.proofs.Math.Option.{Option, none, some}
use Rattle.meaning.specs.declared.Refusal.{Refusal}
use Rattle.meaning.specs.declared.Refusal.TheVariants.{OutputTooShort}
use Rattle.meaning.specs.Below.{made}
use Rattle.meaning.specs.Tests.{◌and◌, ◌or◌, choose}
use Rattle.meaning.specs.Case.{Part, Value, Null, Boolean, Int, Decimal, Text, Entity, Array, Object, Attributes, Point, places, points, text, value_at, point_at}
use Rattle.meaning.specs.Check.{check}
use Rattle.meaning.specs.Equal.{same_list}
use Rattle.meaning.specs.Calls.{number_of}
use Rattle.encode.specs.Write.{over}
use Rattle.jsontext.specs.Values.{J, Null as Null-as-J, Truth, Int as Int-as-J, Text as Text-as-J, EntityOf, Decimal as Decimal-as-J, Array as Array-as-J, Object as Object-as-J, Parts, end, part, __entity, __extn}
use Rattle.jsontext.specs.Events.{Item, Event}
use Rattle.jsontrace.specs.declared.ExportError.{ExportError}
use Rattle.jsontrace.specs.declared.ExportError.TheVariants.{Ambiguous, Refused}
use Rattle.jsontrace.specs.Text.{log_text}

-- ---- a case's points as events

unfoldable pub parts_of : (ℕ → List ℕ) → (ℕ → J) → List Part → Parts
parts_of name of [] = end
parts_of name of (p ∷ ps) = part (name p.name) (of p.value) (parts_of name of ps)

unfoldable pub members_of : J → Parts
members_of Null-as-J = end
members_of (Truth b) = end
members_of (Int-as-J z) = end
members_of (Text-as-J t) = end
members_of (EntityOf t i) = end
members_of (Decimal-as-J t) = end
members_of (Array-as-J ps) = end
members_of (Object-as-J ps) = ps

module _ (s : List ℕ) where
  -- a value from its record and what it holds
  unfoldable pub tree_of : (ℕ → J) → Value → J
  tree_of of Null = Null-as-J
  tree_of of (Boolean b) = Truth (eqb b 1)
  tree_of of (Int z) = Int-as-J z
  tree_of of (Decimal t) = Decimal-as-J (text s t)
  tree_of of (Text t) = Text-as-J (text s t)
  tree_of of (Entity t i) = EntityOf (text s t) (text s i)
  tree_of of (Array ps) = Array-as-J (parts_of (λ n. []) of ps)
  tree_of of (Object ps) = Object-as-J (parts_of (text s) of ps)

  unfoldable pub tree_at : ℕ → J
  tree_at = made Null-as-J (λ of v. tree_of of (value_at s v))

  abbrev pub record_at : ℕ → Parts
  record_at v = members_of (tree_at v)

  unfoldable pub maybe_tree : Option ℕ → Option J
  maybe_tree none = none
  maybe_tree (some v) = some (tree_at v)

  unfoldable pub item_of : Attributes → Item
  item_of a = record { type = text s a.type; id = text s a.id; attributes = record_at a.object }

  unfoldable pub event_of : Point → Event
  event_of p = record {
    time = p.time;
    namespace = map (text s) p.namespace;
    action = text s p.action;
    kind = text s p.kind;
    logged = record_at p.logged;
    context = record_at p.context;
    principal = maybe_tree p.principal;
    resource = maybe_tree p.resource;
    entities = map item_of p.entities;
  }

  unfoldable pub point_events : List Event
  point_events = map (λ p. event_of (point_at s p)) (places 0 1 (points s))

  unfoldable pub exported : List ℕ
  exported = log_text point_events

-- ---- 25: an object that would be read as one of Cedar's forms

unfoldable pub form_name : List ℕ → Bool
form_name n = same_list n __entity or same_list n __extn

-- not one member alone, of such a name
unfoldable pub not_form : Parts → Bool
not_form end = true
not_form (part n j end) = not (form_name n)
not_form (part n j (part m k ps)) = true

unfoldable mutual
  pub clear : J → Bool
  clear Null-as-J = true
  clear (Truth b) = true
  clear (Int-as-J z) = true
  clear (Text-as-J t) = true
  clear (EntityOf t i) = true
  clear (Decimal-as-J t) = true
  clear (Array-as-J ps) = clear_parts ps
  clear (Object-as-J ps) = not_form ps and clear_parts ps

  pub clear_parts : Parts → Bool
  clear_parts end = true
  clear_parts (part n j ps) = clear j and clear_parts ps

unfoldable pub clear_maybe : Option J → Bool
clear_maybe none = true
clear_maybe (some j) = clear j

unfoldable pub clear_items : List Item → Bool
clear_items [] = true
clear_items (i ∷ is) = clear (Object-as-J i.attributes) and clear_items is

unfoldable pub clear_event : Event → Bool
clear_event e =
    clear (Object-as-J e.logged)
    and clear (Object-as-J e.context) and clear_maybe e.principal and clear_maybe e.resource and clear_items e.entities

unfoldable pub clear_events : List Event → Bool
clear_events [] = true
clear_events (e ∷ es) = clear_event e and clear_events es

-- ---- the call

-- bytes of the log; or why there is none
abbrev pub Exported : Type 0
Exported = Result ℕ ExportError

-- 0 where nothing is refused
unfoldable pub export_number : Exported → ℕ
export_number (Ok bytes) = 0
export_number (Err Ambiguous) = 25
export_number (Err (Refused r)) = number_of r

-- of a case that passes: 25 before 14
unfoldable pub given_case : List ℕ → List ℕ → Exported
given_case s output =
    choose (clear_events (point_events s))
    (choose (leb (length (exported s)) (length output)) (Ok (length (exported s))) (Err (Refused OutputTooShort)))
    (Err Ambiguous)

unfoldable pub unless_refused : Option Refusal → Exported → Exported
unless_refused none said = said
unless_refused (some r) said = Err (Refused r)

-- a buffer changes only on an answer, only in the bytes filled
unfoldable pub filled_if : Exported → List ℕ → List ℕ → List ℕ
filled_if (Ok bytes) new buffer = over new buffer
filled_if (Err e) new buffer = buffer

pub record ExportResult : Type 0 where
  pub said : Exported
  pub output : List ℕ

unfoldable pub export_call : List ℕ → List ℕ → ExportResult
export_call s output =
    let said = unless_refused (check s) (given_case s output) in
    record { said = said; output = filled_if said (exported s) output }
