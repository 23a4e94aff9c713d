use Rattle.std.proofs.Common.{rules}
use Rattle.jsonnames.proofs.Gathers.{gather_start, gather_fits, gather_even, gather_pair, gather_odd, gather_done}
use Rattle.jsonnames.proofs.runs.gather.Goals as goal

pub loop-count-init : goal.loop-count-init
loop-count-init c = search (gather_start, rules)

pub merge-requires : goal.merge-requires
merge-requires c = search (gather_pair, rules)

pub overflow_add-size : goal.overflow_add-size
overflow_add-size c = search (gather_fits, rules)

pub loop-count-preserved-then-count-eq1 : goal.loop-count-preserved-then-count-eq1
loop-count-preserved-then-count-eq1 c = search (gather_odd, rules)

pub loop-count-preserved : goal.loop-count-preserved
loop-count-preserved c = search (gather_even, rules)

pub returns : goal.returns
returns c = search (gather_done, rules)

pub overflow_add-size-else-count-eq1 : goal.overflow_add-size-else-count-eq1
overflow_add-size-else-count-eq1 c = search (gather_fits, rules)
