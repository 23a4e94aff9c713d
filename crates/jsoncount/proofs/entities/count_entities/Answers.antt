use Rattle.std.proofs.Common.{rules}
use Rattle.jsoncount.proofs.Triples.{entities-signed, entities-begun, entities-good, entities-after, entities-less, entities-again, entities-told}
use Rattle.jsoncount.proofs.entities.count_entities.Goals as goal

pub first_part-part-requires : goal.first_part-part-requires
first_part-part-requires c = search (entities-signed, rules)

pub loop-part-init : goal.loop-part-init
loop-part-init c = search (entities-begun, rules)

pub count_entity-end-requires : goal.count_entity-end-requires
count_entity-end-requires c = search (entities-good, rules)

pub part_after-part-requires : goal.part_after-part-requires
part_after-part-requires c = search (entities-after, rules)

pub loop-part-smaller : goal.loop-part-smaller
loop-part-smaller c = search (entities-less, rules)

pub loop-part-preserved : goal.loop-part-preserved
loop-part-preserved c = search (entities-again, rules)

pub returns : goal.returns
returns c = search (entities-told, rules)
