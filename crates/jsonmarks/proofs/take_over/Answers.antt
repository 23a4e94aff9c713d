use Rattle.std.proofs.Common.{rules}
use Rattle.jsonmarks.proofs.Keeps.{take_cells, take-many, take-wipe, take_all, take-two, signed-long, taken-signed}
use Rattle.jsonmarks.proofs.take_over.Goals as goal

pub size_for-size-requires : goal.size_for-size-requires
size_for-size-requires c = search (take-many, take_cells, rules)

pub wipe-requires : goal.wipe-requires
wipe-requires c = search (take-wipe, rules)

pub mark_all-requires : goal.mark_all-requires
mark_all-requires c = search (take_all, rules)

pub sign-requires : goal.sign-requires
sign-requires c = search (take-two, rules)

pub shape_of-names : goal.shape_of-names
shape_of-names c = search (signed-long, rules)

pub returns : goal.returns
returns c = search (taken-signed, rules)
