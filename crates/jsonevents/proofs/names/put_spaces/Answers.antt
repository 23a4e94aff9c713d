use Rattle.std.proofs.Common.{rules}
use Rattle.jsonpieces.proofs.Names.{spaces-signed, spaces-start, spaces-due, spaces-after, spaces-again, spaces-less, spaces-long, spaces-marks, spaces-end}
use Rattle.jsonevents.proofs.names.put_spaces.Goals as goal

pub first_part-part-requires : goal.first_part-part-requires
first_part-part-requires c = search (spaces-signed, rules)

pub loop-part-init : goal.loop-part-init
loop-part-init c = search (spaces-start, rules)

pub put_named-end-requires : goal.put_named-end-requires
put_named-end-requires c = search (spaces-due, rules)

pub part_after-part-requires : goal.part_after-part-requires
part_after-part-requires c = search (spaces-after, rules)

pub loop-part-smaller : goal.loop-part-smaller
loop-part-smaller c = search (spaces-less, rules)

pub loop-part-preserved : goal.loop-part-preserved
loop-part-preserved c = search (spaces-again, rules)

pub shape_of-out : goal.shape_of-out
shape_of-out c = search (spaces-long, rules)

pub shape_of-marks : goal.shape_of-marks
shape_of-marks c = search (spaces-marks, rules)

pub returns : goal.returns
returns c = search (spaces-end, rules)
