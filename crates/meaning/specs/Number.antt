-- Signed 64-bit numbers: arithmetic that saturates, and the window
use Rattle.std.specs.Prelude.{Bool, true, false, List, [], ◌∷◌, ℤ, pos, negsuc, ◌+ℤ◌, ◌-ℤ◌, ◌*ℤ◌}
use Rattle.std.specs.Int.Signed.{lt_z, le_z}
use Rattle.std.proofs.Common.{to_z}
use Rattle.std.specs.Int.{w64}
use Rattle.meaning.specs.Tests.{◌and◌, choose}
use Rattle.meaning.specs.declared.ArithOp.{ArithOp}
use Rattle.meaning.specs.declared.ArithOp.TheVariants.{Add, Sub, Mul}
use Rattle.meaning.specs.declared.TimeUnit.{TimeUnit}
use Rattle.meaning.specs.declared.TimeUnit.TheVariants.{Seconds, Minutes, Hours, Days}
use Rattle.meaning.specs.declared.Interval.{Interval}
use Rattle.meaning.specs.declared.Window.{Window}
use Rattle.meaning.specs.declared.Window.TheVariants.{Inside, TooOld, Later}

unfoldable pub highest : ℤ
highest = pos 9223372036854775807

unfoldable pub lowest : ℤ
lowest = negsuc 9223372036854775807

-- the nearest number that 64 bits hold
unfoldable pub clamp : ℤ → ℤ
clamp z = elim (lt_z z lowest) [ true ↦ lowest | false ↦ elim (lt_z highest z) [ true ↦ highest | false ↦ z ] ]

unfoldable pub calculate : ArithOp → ℤ → ℤ → ℤ
calculate Add a b = clamp (a +ℤ b)
calculate Sub a b = clamp (a -ℤ b)
calculate Mul a b = clamp (a *ℤ b)

unfoldable pub seconds_of : TimeUnit → ℤ
seconds_of Seconds = pos 1
seconds_of Minutes = pos 60
seconds_of Hours = pos 3600
seconds_of Days = pos 86400

-- an amount's seconds
unfoldable pub seconds : Interval → ℤ
seconds i = calculate Mul (to_z w64 i.amount) (seconds_of i.unit)

-- time `later` lies at least 0 and at most `span` seconds after time `earlier`
unfoldable pub in_window : ℤ → ℤ → ℤ → Bool
in_window span later earlier = let d = calculate Sub later earlier in le_z (pos 0) d and le_z d span

unfoldable pub sumℤ : List ℤ → ℤ
sumℤ [] = pos 0
sumℤ (z ∷ zs) = z +ℤ sumℤ zs

-- how time `to` lies to the window of time `from`: later where the difference is negative, else inside up to `span`
unfoldable pub window : ℤ → ℤ → ℤ → Window
window span from to = let d = calculate Sub from to in choose (lt_z d (pos 0)) Later (choose (le_z d span) Inside TooOld)
