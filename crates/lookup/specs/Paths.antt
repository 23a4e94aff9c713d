-- The value's number that a path reaches, if any
use Rattle.std.proofs.Math.Option.{Option, none, some}
use Rattle.std.specs.Prelude.{ℕ, Option as Maybe, Some, None}
use Rattle.meaning.specs.declared.ValNo.{ValNo}

unfoldable pub found_at : Maybe ValNo → Option ℕ
found_at (Some v) = some v.0
found_at None = none
