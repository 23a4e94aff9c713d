use Rattle.std.proofs.Common.{rules}
use Rattle.meaning.specs.Case.{unit_of}
use Rattle.meaning.specs.Tests.{pick}
use Rattle.tables.proofs.Choices.{unit-rest}
use Rattle.tables.proofs.unit_of.Goals as goal

pub returns-in-1 : goal.returns-in-1
unfolding unit_of pick
returns-in-1 c = rw c.in-1.is

pub returns-in-2 : goal.returns-in-2
unfolding unit_of pick
returns-in-2 c = rw c.in-2.is

pub returns-in-3 : goal.returns-in-3
unfolding unit_of pick
returns-in-3 c = rw c.in-3.is

pub returns-in_default : goal.returns-in_default
returns-in_default c = search (unit-rest, rules)
