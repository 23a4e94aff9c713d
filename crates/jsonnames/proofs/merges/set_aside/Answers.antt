use Rattle.std.proofs.Common.{rules}
use Rattle.jsonnames.proofs.Joins.{copy_start, copy_read, copy_write, copy_on, copy_done}
use Rattle.jsonnames.proofs.merges.set_aside.Goals as goal

pub loop-i-init : goal.loop-i-init
loop-i-init c = search (copy_start, rules)

pub bounds-names-i : goal.bounds-names-i
bounds-names-i c = search (copy_read, rules)

pub overflow_add-names : goal.overflow_add-names
overflow_add-names c = search (copy_write, rules)

pub bounds-names-high : goal.bounds-names-high
bounds-names-high c = search (copy_write, rules)

pub loop-i-preserved : goal.loop-i-preserved
loop-i-preserved c = search (copy_on, rules)

pub returns : goal.returns
returns c = search (copy_done, rules)
