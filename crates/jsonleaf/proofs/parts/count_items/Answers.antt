use Rattle.std.proofs.Common.{rules}
use Rattle.jsonadds.proofs.Passing.{count-signed, count-begun, count-good, count-after, count_less, count-again, count-told}
use Rattle.jsonleaf.proofs.parts.count_items.Goals as goal

pub first_part-part-requires : goal.first_part-part-requires
first_part-part-requires c = search (count-signed, rules)

pub loop-part-init : goal.loop-part-init
loop-part-init c = search (count-begun, rules)

pub value_end-end-requires : goal.value_end-end-requires
value_end-end-requires c = search (count-good, rules)

pub part_after-part-requires : goal.part_after-part-requires
part_after-part-requires c = search (count-after, rules)

pub loop-part-smaller : goal.loop-part-smaller
loop-part-smaller c = search (count_less, rules)

pub loop-part-preserved : goal.loop-part-preserved
loop-part-preserved c = search (count-again, rules)

pub returns : goal.returns
returns c = search (count-told, rules)
