use Rattle.std.proofs.Common.{rules}
use Rattle.jsonnames.proofs.Looks.{look-from, look-start, look-due, look-fits, look-there, look-on, look_none}
use Rattle.jsonnames.proofs.runs.look.Goals as goal

pub overflow_sub-count : goal.overflow_sub-count
overflow_sub-count c = search (look-from, rules)

pub loop-count-init : goal.loop-count-init
loop-count-init c = search (look-start, rules)

pub look_last-requires : goal.look_last-requires
look_last-requires c = search (look-due, rules)

pub returns-in-Ok : goal.returns-in-Ok
returns-in-Ok c = search (look-there, rules)

pub overflow_add-size : goal.overflow_add-size
overflow_add-size c = search (look-fits, rules)

pub loop-count-preserved : goal.loop-count-preserved
loop-count-preserved c = search (look-on, rules)

pub returns : goal.returns
returns c = search (look_none, rules)
