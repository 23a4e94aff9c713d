use Rattle.std.proofs.Common.{rules}
use Rattle.laws.specs.Checked.{checked-bodies}
use Rattle.quick.proofs.Nodes.{left_of_and, right_of_and, left_of_or, right_of_or, under-not, arguments_of, and_yes, and_no, or_yes, or_no, turned-over, predicate-here, predicate-elsewhere}
use Rattle.quick.proofs.+decide.Goals as goal

pub node_at-requires : goal.node_at-requires
node_at-requires t c = search (checked-bodies, rules)

pub decide-requires : goal.decide-requires
decide-requires t c = search (left_of_and, rules)

pub decide-requires-then-branch : goal.decide-requires-then-branch
decide-requires-then-branch t c = search (right_of_and, rules)

pub decide-requires-in-Or : goal.decide-requires-in-Or
decide-requires-in-Or t c = search (left_of_or, rules)

pub decide-requires-else-branch-2 : goal.decide-requires-else-branch-2
decide-requires-else-branch-2 t c = search (right_of_or, rules)

pub decide-requires-in-Not : goal.decide-requires-in-Not
decide-requires-in-Not t c = search (under-not, rules)

pub fit_all-requires : goal.fit_all-requires
fit_all-requires t c = search (arguments_of, rules)

pub returns-then-branch : goal.returns-then-branch
returns-then-branch t c = search (and_yes, rules)

pub returns-else-branch : goal.returns-else-branch
returns-else-branch t c = and_no _ _ _ c.requires c.node_at.ensures c.in_ok-left.ensures c.in-And.is c.in_ok-decide-in-And.ensures c.if-branch.false

pub returns-then-branch-2 : goal.returns-then-branch-2
returns-then-branch-2 t c = or_yes _ _ _ c.requires c.node_at.ensures c.in_ok-left.ensures c.in-Or.is c.in_ok-decide-in-Or.ensures c.if-branch-2.true

pub returns-else-branch-2 : goal.returns-else-branch-2
returns-else-branch-2 t c = search (or_no, rules)

pub returns-in_ok-decide-in-Not : goal.returns-in_ok-decide-in-Not
returns-in_ok-decide-in-Not t c = search (turned-over, rules)

pub returns-then-same_event : goal.returns-then-same_event
returns-then-same_event t c = search (predicate-here, rules)

pub returns-else-same_event : goal.returns-else-same_event
returns-else-same_event t c = predicate-elsewhere _ _ _ c.requires c.node_at.ensures c.in_ok-left.ensures c.in-Predicate.is c.same_event.ensures c.if-same_event.false
