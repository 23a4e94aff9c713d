-- A node from its kind and its words
use Rattle.std.proofs.Common.{rules}
use Rattle.meaning.specs.Case.{node_from, under}
use Rattle.meaning.specs.Tests.{choose}
use Rattle.tables.proofs.Choices.{from-formerly, from-previous, from-since, from_comparison, from_scope, from-arithmetic, from-rest}
use Rattle.tables.proofs.node_from.Goals as goal

pub returns-in-1 : goal.returns-in-1
unfolding node_from under choose
returns-in-1 c = rw c.in-1.is

pub returns-in-2 : goal.returns-in-2
unfolding node_from under choose
returns-in-2 c = rw c.in-2.is

pub returns-in-3 : goal.returns-in-3
unfolding node_from under choose
returns-in-3 c = rw c.in-3.is

pub returns-in-4 : goal.returns-in-4
returns-in-4 c = search (from-formerly, rules)

pub returns-in-5 : goal.returns-in-5
returns-in-5 c = search (from-previous, rules)

pub returns-in-6 : goal.returns-in-6
returns-in-6 c = search (from-since, rules)

pub returns-in-7 : goal.returns-in-7
unfolding node_from under choose
returns-in-7 c = rw c.in-7.is

pub returns-in-8 : goal.returns-in-8
returns-in-8 c = search (from_comparison, rules)

pub returns-in-9 : goal.returns-in-9
unfolding node_from under choose
returns-in-9 c = rw c.in-9.is

pub returns-in-10 : goal.returns-in-10
unfolding node_from under choose
returns-in-10 c = rw c.in-10.is

pub returns-in-20 : goal.returns-in-20
unfolding node_from under choose
returns-in-20 c = rw c.in-20.is

pub returns-in-21 : goal.returns-in-21
unfolding node_from under choose
returns-in-21 c = rw c.in-21.is

pub returns-in-22 : goal.returns-in-22
returns-in-22 c = search (from_scope, rules)

pub returns-in-23 : goal.returns-in-23
unfolding node_from under choose
returns-in-23 c = rw c.in-23.is

pub returns-in-24 : goal.returns-in-24
unfolding node_from under choose
returns-in-24 c = rw c.in-24.is

pub returns-in-25 : goal.returns-in-25
unfolding node_from under choose
returns-in-25 c = rw c.in-25.is

pub returns-in-26 : goal.returns-in-26
returns-in-26 c = search (from-arithmetic, rules)

pub returns-in-30 : goal.returns-in-30
unfolding node_from under choose
returns-in-30 c = rw c.in-30.is

pub returns-in-31 : goal.returns-in-31
unfolding node_from under choose
returns-in-31 c = rw c.in-31.is

pub returns-in_default : goal.returns-in_default
returns-in_default c = search (from-rest, rules)
