use Rattle.std.proofs.Common.{arith, rules}
use Rattle.joining.proofs.Rules.{merging_none, merging_at, merging_more, merging_all}
use Rattle.joining.proofs.merge.Goals as goal

pub loop-j-init : goal.loop-j-init
loop-j-init c = search (merging_none, rules)

pub move_up-requires : goal.move_up-requires
move_up-requires c = search (merging_at, rules)

pub overflow_add-order : goal.overflow_add-order
overflow_add-order c = omega (arith, merging_at c.loop-j.invariant c.loop-j-test.true c.wide-at.ensures)

pub bounds-order-at : goal.bounds-order-at
bounds-order-at c = omega (arith, merging_at c.loop-j.invariant c.loop-j-test.true c.wide-at.ensures)

pub loop-j-preserved : goal.loop-j-preserved
loop-j-preserved c = search (merging_more, rules)

pub returns : goal.returns
returns c = search (merging_all, rules)
