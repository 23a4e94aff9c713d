use Rattle.std.proofs.Common.{rules}
use Rattle.meaning.specs.Case.{cmp_of}
use Rattle.meaning.specs.Tests.{pick}
use Rattle.tables.proofs.Choices.{cmp_rest}
use Rattle.tables.proofs.cmp_of.Goals as goal

pub returns-in-1 : goal.returns-in-1
unfolding cmp_of pick
returns-in-1 c = rw c.in-1.is

pub returns-in-2 : goal.returns-in-2
unfolding cmp_of pick
returns-in-2 c = rw c.in-2.is

pub returns-in-3 : goal.returns-in-3
unfolding cmp_of pick
returns-in-3 c = rw c.in-3.is

pub returns-in-4 : goal.returns-in-4
unfolding cmp_of pick
returns-in-4 c = rw c.in-4.is

pub returns-in-5 : goal.returns-in-5
unfolding cmp_of pick
returns-in-5 c = rw c.in-5.is

pub returns-in_default : goal.returns-in_default
returns-in_default c = search (cmp_rest, rules)
