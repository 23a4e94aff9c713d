use Rattle.std.proofs.Common.{rules}
use Rattle.jsonadds.proofs.Sorting.{sort_signed, sort_begun, sort_member, sort_after, sort_keep, sort_less, sort_again, sort_long, sort_told}
use Rattle.jsonleaf.proofs.parts.collect_names.Goals as goal

pub first_part-part-requires : goal.first_part-part-requires
first_part-part-requires c = search (sort_signed, rules)

pub loop-part-init : goal.loop-part-init
loop-part-init c = search (sort_begun, rules)

pub member_end-end-requires : goal.member_end-end-requires
member_end-end-requires c = search (sort_member, rules)

pub part_after-part-requires : goal.part_after-part-requires
part_after-part-requires c = search (sort_after, rules)

pub keep-requires : goal.keep-requires
keep-requires c = search (sort_keep, rules)

pub loop-part-smaller : goal.loop-part-smaller
loop-part-smaller c = search (sort_less, rules)

pub loop-part-preserved : goal.loop-part-preserved
loop-part-preserved c = search (sort_again, rules)

pub shape_of-names : goal.shape_of-names
shape_of-names c = search (sort_long, rules)

pub returns : goal.returns
returns c = search (sort_told, rules)
