-- The definition's value that the code's enum stands for
use Rattle.std.specs.Prelude.{◌≡◌, map, ℕ}
use Rattle.std.proofs.Common.{to_z}
use Rattle.std.specs.Int.{w64}
use Rattle.tables.specs.declared.Value.{Value as Read}
use Rattle.tables.specs.declared.Value.TheVariants.{Null as null, Bool as bool, Int as int, Decimal as decimal, Text as text, Entity as entity, Array as array, Object as object}
use Rattle.meaning.specs.Case.{Part, Value, Null, Boolean, Int, Decimal, Text, Entity, Array, Object, places, value_from}

-- with the members by number
unfoldable pub meant : (ℕ → Part) → Read → Value
meant part null = Null
meant part (bool b) = Boolean b
meant part (int bits) = Int (to_z w64 bits)
meant part (decimal n) = Decimal n.0
meant part (text n) = Text n.0
meant part (entity t i) = Entity t.0 i.0
meant part (array r) = Array (map part (places r.first 1 r.count))
meant part (object r) = Object (map part (places r.first 1 r.count))

-- what is read of a record's words, whatever the members
pub record Means (k a b : ℕ) (r : Read) : Type 0 where
  pub is : (part : ℕ → Part) → meant part r ≡ value_from part k a b
