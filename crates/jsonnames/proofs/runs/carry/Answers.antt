use Rattle.std.proofs.Common.{rules}
use Rattle.jsonnames.proofs.Carries.{carry_sixteen, carry_first, carry_start, carry_order, carry_pair, carry_on, carry_done, carry_room}
use Rattle.jsonnames.proofs.runs.carry.Goals as goal

pub overflow_sub-low : goal.overflow_sub-low
overflow_sub-low c = search (carry_sixteen, rules)

pub overflow_sub-count : goal.overflow_sub-count
overflow_sub-count c = search (carry_first, rules)

pub loop-count-init : goal.loop-count-init
loop-count-init c = search (carry_start, rules)

pub overflow_sub-from : goal.overflow_sub-from
overflow_sub-from c = search (carry_order, rules)

pub merge-requires : goal.merge-requires
merge-requires c = search (carry_pair, rules)

pub loop-count-preserved : goal.loop-count-preserved
loop-count-preserved c = search (carry_on, rules)

pub returns : goal.returns
returns c = search (carry_done, rules)

pub overflow_sub-from-in-loop-count : goal.overflow_sub-from-in-loop-count
overflow_sub-from-in-loop-count c = search (carry_room, rules)
