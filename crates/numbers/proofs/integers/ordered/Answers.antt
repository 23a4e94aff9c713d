use Rattle.std.proofs.Common.{arith}
use Rattle.std.proofs.lemmas.Int.{to_z-of_z, of_z-to_z}
use Rattle.numbers.specs.Numbers.{orders}
use Rattle.numbers.proofs.integers.ordered.Goals as goal

pub returns-in-Le : goal.returns-in-Le
unfolding orders
returns-in-Le c = rw c.in-Le.is (grind (arith, to_z-of_z))

pub returns-in-Lt : goal.returns-in-Lt
unfolding orders
returns-in-Lt c = rw c.in-Lt.is (grind (arith, to_z-of_z))

pub returns-in-Ge : goal.returns-in-Ge
unfolding orders
returns-in-Ge c = rw c.in-Ge.is (grind (arith, to_z-of_z))

pub returns-in-Gt : goal.returns-in-Gt
unfolding orders
returns-in-Gt c = rw c.in-Gt.is (grind (arith, to_z-of_z))

pub returns-in-Eq : goal.returns-in-Eq
unfolding orders
returns-in-Eq c = rw c.in-Eq.is (grind (arith, of_z-to_z))

pub returns-in-NotEq : goal.returns-in-NotEq
unfolding orders
returns-in-NotEq c = rw c.in-NotEq.is (grind (arith, of_z-to_z))
