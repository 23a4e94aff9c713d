-- Objects and entity lists in order: members in byte order of their names, entities in byte order of (type, id), equal ones in the text's order (J17)
use Rattle.std.specs.Prelude.{Bool, List, [], ◌∷◌, ℕ}
use Rattle.std.proofs.Math.Option.{Option, none, some}
use Rattle.meaning.specs.Tests.{◌and◌, ◌or◌, choose}
use Rattle.meaning.specs.Text.{before}
use Rattle.meaning.specs.Equal.{same_list}
use Rattle.jsontext.specs.Values.{J, Null, Truth, Int, Text, EntityOf, Decimal, Array, Object, Parts, end, part}
use Rattle.jsontext.specs.Events.{Item, Event}

-- a member among members in order, before those of its own name
unfoldable pub insert_part : List ℕ → J → Parts → Parts
insert_part n j end = part n j end
insert_part n j (part m k ps) = choose (before m n) (part m k (insert_part n j ps)) (part n j (part m k ps))

-- at every depth
unfoldable mutual
  pub ordered : J → J
  ordered Null = Null
  ordered (Truth b) = Truth b
  ordered (Int z) = Int z
  ordered (Text t) = Text t
  ordered (EntityOf t i) = EntityOf t i
  ordered (Decimal t) = Decimal t
  ordered (Array ps) = Array (ordered_items ps)
  ordered (Object ps) = Object (ordered_members ps)

  -- items stay where they are
  pub ordered_items : Parts → Parts
  ordered_items end = end
  ordered_items (part n j ps) = part n (ordered j) (ordered_items ps)

  pub ordered_members : Parts → Parts
  ordered_members end = end
  ordered_members (part n j ps) = insert_part n (ordered j) (ordered_members ps)

unfoldable pub ordered_maybe : Option J → Option J
ordered_maybe none = none
ordered_maybe (some j) = some (ordered j)

-- ---- entities

unfoldable pub item_before : Item → Item → Bool
item_before a b = before a.type b.type or (same_list a.type b.type and before a.id b.id)

unfoldable pub insert_item : Item → List Item → List Item
insert_item x [] = x ∷ []
insert_item x (y ∷ ys) = choose (item_before y x) (y ∷ insert_item x ys) (x ∷ y ∷ ys)

unfoldable pub ordered_entities : List Item → List Item
ordered_entities [] = []
ordered_entities (x ∷ xs) =
    insert_item (record { type = x.type; id = x.id; attributes = ordered_members x.attributes }) (ordered_entities xs)

-- ---- an event

unfoldable pub arranged : Event → Event
arranged e = record {
  time = e.time;
  namespace = e.namespace;
  action = e.action;
  kind = e.kind;
  logged = ordered_members e.logged;
  context = ordered_members e.context;
  principal = ordered_maybe e.principal;
  resource = ordered_maybe e.resource;
  entities = ordered_entities e.entities;
}
