-- The number that the code's bits stand for, and the reading of a decimal in its steps
use Rattle.std.specs.Prelude.{Bool, List, [], ℕ, ℤ, Option, Some, None}
use Rattle.std.proofs.Math.Option.{Option as Maybe, none, some}
use Rattle.std.proofs.Common.{to_z}
use Rattle.std.specs.Int.{w64}
use Rattle.meaning.specs.Equal.{cut, scaled}

unfoldable pub decimal_of : Option ℕ → Maybe ℤ
decimal_of (Some bits) = some (to_z w64 bits)
decimal_of None = none

-- a decimal whose sign has been read
unfoldable pub unsigned_of : Bool → List ℕ → Maybe ℤ
unsigned_of minus l = elim (cut [] l) [ none ↦ none | some parts ↦ scaled minus parts.0 parts.1 ]
