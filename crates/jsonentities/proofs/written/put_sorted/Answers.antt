use Rattle.std.proofs.Common.{rules}
use Rattle.jsonentities.proofs.Entering.{enter-start, entity-due, enter-cell, enter-again, enter-names, enter-out, enter-marks, enter-end}
use Rattle.jsonentities.proofs.written.put_sorted.Goals as goal

pub loop-i-init : goal.loop-i-init
loop-i-init c = search (enter-start, rules)

pub bounds-names-i : goal.bounds-names-i
bounds-names-i c = search (enter-cell, rules)

pub put_entity-requires : goal.put_entity-requires
put_entity-requires c = search (entity-due, rules)

pub loop-i-preserved : goal.loop-i-preserved
loop-i-preserved c = search (enter-again, rules)

pub shape_of-names : goal.shape_of-names
shape_of-names c = search (enter-names, rules)

pub shape_of-out : goal.shape_of-out
shape_of-out c = search (enter-out, rules)

pub shape_of-marks : goal.shape_of-marks
shape_of-marks c = search (enter-marks, rules)

pub returns : goal.returns
returns c = search (enter-end, rules)
