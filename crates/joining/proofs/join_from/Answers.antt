use Rattle.joining.proofs.Rules.{turn-none, turn_on, turn-ready, turn-less, turn_more, turn_many, turn-all}
use Rattle.std.proofs.Common.{rules}
use Rattle.joining.proofs.join_from.Goals as goal

pub loop-k-init : goal.loop-k-init
loop-k-init c = search (turn-none, rules)

pub fill-requires-clause-upto : goal.fill-requires-clause-upto
fill-requires-clause-upto c = c.loop-k.invariant.upto

pub fill-requires-clause-from_bound : goal.fill-requires-clause-from_bound
fill-requires-clause-from_bound c = turn_on c.loop-k.invariant c.loop-k-test.true

pub merge-requires : goal.merge-requires
merge-requires c = turn-ready c.loop-k.invariant c.fill.ensures c.in-Some.is

pub loop-k-smaller : goal.loop-k-smaller
loop-k-smaller c = search (turn-less, rules)

pub loop-k-preserved : goal.loop-k-preserved
loop-k-preserved c = search (turn_more, rules)

pub returns-in_default : goal.returns-in_default
returns-in_default c = search (turn_many, rules)

pub returns : goal.returns
returns c = search (turn-all, rules)
