use Rattle.std.proofs.Common.{arith}
use Rattle.std.proofs.lemmas.Int.{to_z-of_z}
use Rattle.meaning.specs.Number.{calculate}
use Rattle.numbers.proofs.Saturates.{clamp_is}
use Rattle.numbers.proofs.integers.calculate.Goals as goal

pub returns-in-Add : goal.returns-in-Add
unfolding calculate
returns-in-Add c = rw c.in-Add.is (grind (arith, to_z-of_z, clamp_is))

pub returns-in-Sub : goal.returns-in-Sub
unfolding calculate
returns-in-Sub c = rw c.in-Sub.is (grind (arith, to_z-of_z, clamp_is))

pub returns-in-Mul : goal.returns-in-Mul
unfolding calculate
returns-in-Mul c = rw c.in-Mul.is (grind (arith, to_z-of_z, clamp_is))
