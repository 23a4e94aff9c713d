-- What can be written as a line and read again: integers of 64 bits, strings of UTF-8, names of an object all different, no object that reads as one of Cedar's forms, and at most 32 levels
use Rattle.std.specs.Prelude.{Bool, true, not, List, [], ◌∷◌, ℕ, suc, max, ℤ, pos, negsuc, leb}
use Rattle.std.proofs.Math.Option.{Option, none, some}
use Rattle.meaning.specs.declared.Due.TheVariants.{Nothing}
use Rattle.meaning.specs.Tests.{◌and◌}
use Rattle.meaning.specs.Text.{utf8}
use Rattle.meaning.specs.Equal.{same_list}
use Rattle.jsontext.specs.Values.{J, Null, Truth, Int, Text, EntityOf, Decimal, Array, Object, Parts, end, part}
use Rattle.jsontext.specs.Events.{Item, Event}
use Rattle.jsontrace.specs.Export.{not_form}

-- what 64 bits hold with a sign
unfoldable pub fits64 : ℤ → Bool
fits64 (pos n) = leb n 9223372036854775807
fits64 (negsuc n) = leb n 9223372036854775807

abbrev pub well : List ℕ → Bool
well t = utf8 Nothing t

-- a name that is not among others
unfoldable pub fresh : List ℕ → List (List ℕ) → Bool
fresh n [] = true
fresh n (m ∷ ms) = not (same_list m n) and fresh n ms

-- names that are all different, and not among those seen
unfoldable pub distinct : List (List ℕ) → List (List ℕ) → Bool
distinct seen [] = true
distinct seen (n ∷ ns) = fresh n seen and distinct (n ∷ seen) ns

unfoldable pub part_names : Parts → List (List ℕ)
part_names end = []
part_names (part n j ps) = n ∷ part_names ps

unfoldable mutual
  pub writable : J → Bool
  writable Null = true
  writable (Truth b) = true
  writable (Int z) = fits64 z
  writable (Text t) = well t
  writable (EntityOf t i) = well t and well i
  writable (Decimal t) = well t
  writable (Array ps) = writable_items ps
  writable (Object ps) = distinct [] (part_names ps) and not_form ps and writable_members ps

  -- items have no names
  pub writable_items : Parts → Bool
  writable_items end = true
  writable_items (part n j ps) = same_list n [] and writable j and writable_items ps

  pub writable_members : Parts → Bool
  writable_members end = true
  writable_members (part n j ps) = well n and writable j and writable_members ps

-- levels from a value down: 1 for a leaf
unfoldable mutual
  pub deep : J → ℕ
  deep Null = 1
  deep (Truth b) = 1
  deep (Int z) = 1
  deep (Text t) = 1
  deep (EntityOf t i) = 1
  deep (Decimal t) = 1
  deep (Array ps) = suc (deep_parts ps)
  deep (Object ps) = suc (deep_parts ps)

  pub deep_parts : Parts → ℕ
  deep_parts end = 0
  deep_parts (part n j ps) = max (deep j) (deep_parts ps)

-- ---- events

-- with at most 32 levels
abbrev pub writable_value : J → Bool
writable_value j = writable j and leb (deep j) 32

unfoldable pub writable_maybe : Option J → Bool
writable_maybe none = true
writable_maybe (some j) = writable_value j

unfoldable pub all_well : List (List ℕ) → Bool
all_well [] = true
all_well (t ∷ ts) = well t and all_well ts

unfoldable pub writable_entities : List Item → Bool
writable_entities [] = true
writable_entities (i ∷ is) = (well i.type and well i.id and writable_value (Object i.attributes)) and writable_entities is

unfoldable pub writable_event : Event → Bool
writable_event e =
    fits64 e.time
    and all_well e.namespace
    and well e.action
    and well e.kind
    and writable_value (Object e.logged)
    and writable_value (Object e.context)
    and writable_maybe e.principal
    and writable_maybe e.resource
    and writable_entities e.entities

unfoldable pub writable_events : List Event → Bool
writable_events [] = true
writable_events (e ∷ es) = writable_event e and writable_events es
