use Rattle.std.proofs.Common.{rules}
use Rattle.laws.specs.Checked.{checked-bodies}
use borrow.Author.Tests.{not-true}
use Rattle.matching.proofs.Leaves.{stands}
use Rattle.quick.proofs.Arguments.{fit-equal, fit-any, fit-missing}
use Rattle.quick.proofs.fit_one.Goals as goal

pub list_at-term-requires : goal.list_at-term-requires
list_at-term-requires c = search (checked-bodies, rules)

pub node_at-node-requires : goal.node_at-node-requires
node_at-node-requires c = search (checked-bodies, rules)

pub ground-requires : goal.ground-requires
ground-requires c = search (stands, rules)

pub list_at-first-requires : goal.list_at-first-requires
list_at-first-requires c = search (checked-bodies, rules)

pub list_at-count-requires : goal.list_at-count-requires
list_at-count-requires c = search (checked-bodies, rules)

pub returns-then-not-is_bound : goal.returns-then-not-is_bound
returns-then-not-is_bound c = search (fit-missing, not-true, rules)

pub returns-then-not-is_bound-2 : goal.returns-then-not-is_bound-2
returns-then-not-is_bound-2 c = search (fit-any, not-true, rules)

pub returns-else-not-is_bound-2 : goal.returns-else-not-is_bound-2
returns-else-not-is_bound-2 c = search (fit-equal, rules)
