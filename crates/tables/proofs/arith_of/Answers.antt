use Rattle.std.proofs.Common.{rules}
use Rattle.meaning.specs.Case.{arith_of}
use Rattle.meaning.specs.Tests.{pick}
use Rattle.tables.proofs.Choices.{arith-rest}
use Rattle.tables.proofs.arith_of.Goals as goal

pub returns-in-1 : goal.returns-in-1
unfolding arith_of pick
returns-in-1 c = rw c.in-1.is

pub returns-in-2 : goal.returns-in-2
unfolding arith_of pick
returns-in-2 c = rw c.in-2.is

pub returns-in_default : goal.returns-in_default
returns-in_default c = search (arith-rest, rules)
