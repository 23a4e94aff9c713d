use Rattle.std.proofs.Common.{rules}
use Rattle.meaning.specs.Case.{root_from}
use Rattle.meaning.specs.Tests.{pick}
use Rattle.tables.proofs.Choices.{root_rest}
use Rattle.tables.proofs.root_from.Goals as goal

pub returns-in-1 : goal.returns-in-1
unfolding root_from pick
returns-in-1 c = rw c.in-1.is

pub returns-in_default : goal.returns-in_default
returns-in_default c = search (root_rest, rules)
