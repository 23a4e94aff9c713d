-- The window where it turns, as span, the time seen from and the time seen: the bench at 2 looking at 1, and at 3 at 0 (20 s and 19 s); equal times; the numbers at which a difference and a span saturate
use Rattle.std.specs.Prelude.{◌≡◌, refl, [], ◌∷◌, map, ℤ, pos, negsuc}
use Rattle.meaning.specs.Tests.{choose}
use Rattle.meaning.specs.Number.{highest, lowest, clamp, calculate, seconds_of, seconds, window}
use Rattle.meaning.specs.declared.TimeUnit.TheVariants.{Days}
use Rattle.meaning.specs.declared.Window.TheVariants.{Inside, TooOld, Later}

windows :
    map (λ (w : ℤ × ℤ × ℤ). window w.0 w.1 w.2) (
    (pos 20, pos 105, pos 110) ∷
    (pos 20, pos 120, pos 100) ∷
    (pos 19, pos 120, pos 100) ∷
    (pos 0, pos 100, pos 100) ∷
    (negsuc 0, pos 100, pos 100) ∷
    (negsuc 0, pos 100, pos 101) ∷
    (pos 9223372036854775807, pos 9223372036854775807, negsuc 9223372036854775807) ∷
    (pos 9223372036854775806, pos 9223372036854775807, negsuc 9223372036854775807) ∷
    (pos 9223372036854775807, negsuc 9223372036854775807, pos 9223372036854775807) ∷
    (negsuc 9223372036854775807, negsuc 9223372036854775807, pos 9223372036854775807) ∷
    (seconds (record { amount = 106751991167301; unit = Days }), pos 9223372036854775807, negsuc 9223372036854775807) ∷
    (seconds (record { amount = 106751991167300; unit = Days }), pos 9223372036854775807, negsuc 9223372036854775807) ∷
    (seconds (record { amount = 18446637321718384315; unit = Days }), pos 100, pos 100) ∷
    []) ≡ (Later ∷ Inside ∷ TooOld ∷ Inside ∷ TooOld ∷ Later ∷ Inside ∷ TooOld ∷ Later ∷ Later ∷ Inside ∷ TooOld ∷ TooOld ∷ [])
unfolding window calculate clamp lowest highest seconds seconds_of choose
windows = refl
