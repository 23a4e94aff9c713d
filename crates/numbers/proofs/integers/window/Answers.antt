use Rattle.std.proofs.Common.{arith}
use Rattle.std.proofs.lemmas.Int.{ints, to_z-of_z}
use Rattle.meaning.specs.Number.{window, calculate}
use Rattle.meaning.specs.Tests.{choose}
use Rattle.numbers.proofs.Saturates.{clamp_is}
use Rattle.numbers.proofs.integers.window.Goals as goal

pub returns-then-later-earlier : goal.returns-then-later-earlier
unfolding window calculate choose
returns-then-later-earlier c = rw clamp_is (grind (arith, ints, to_z-of_z))

pub returns-then-past-reach : goal.returns-then-past-reach
unfolding window calculate choose
returns-then-past-reach c = rw clamp_is (grind (arith, ints, to_z-of_z))

pub returns-else-most-ge0 : goal.returns-else-most-ge0
unfolding window calculate choose
returns-else-most-ge0 c = rw clamp_is (grind (arith, ints, to_z-of_z))
