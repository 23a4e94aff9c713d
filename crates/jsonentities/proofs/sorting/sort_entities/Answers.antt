use Rattle.std.proofs.Common.{rules}
use Rattle.jsonentities.proofs.Keeping.{sort_signed, sort_begun, sort-good, sort_after, sort-order, sort_room, sort_long, sort_told, sort_less, sort_again}
use Rattle.jsonentities.proofs.sorting.sort_entities.Goals as goal

pub first_part-part-requires : goal.first_part-part-requires
first_part-part-requires c = search (sort_signed, rules)

pub loop-part-init : goal.loop-part-init
loop-part-init c = search (sort_begun, rules)

pub entity_end-requires : goal.entity_end-requires
entity_end-requires c = search (sort-good, rules)

pub part_after-part-requires : goal.part_after-part-requires
part_after-part-requires c = search (sort_after, rules)

pub keep_entity-requires : goal.keep_entity-requires
keep_entity-requires c = record { in_order = search (sort-order, rules); good = search (sort-good, rules); end_in_bounds = search (sort_room, rules) }

pub shape_of-names : goal.shape_of-names
shape_of-names c = search (sort_long, rules)

pub returns : goal.returns
returns c = search (sort_told, rules)

pub loop-part-smaller : goal.loop-part-smaller
loop-part-smaller c = search (sort_less, rules)

pub loop-part-preserved : goal.loop-part-preserved
loop-part-preserved c = search (sort_again, rules)
