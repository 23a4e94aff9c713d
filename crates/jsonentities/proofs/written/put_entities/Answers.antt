use Rattle.std.proofs.Common.{rules}
use Rattle.jsonentities.proofs.Entering.{entities_sort, entities-sorted, entities-wrote}
use Rattle.jsonentities.proofs.written.put_entities.Goals as goal

pub sort_entities-count-requires : goal.sort_entities-count-requires
sort_entities-count-requires c = search (entities_sort, rules)

pub put_sorted-requires : goal.put_sorted-requires
put_sorted-requires c = search (entities-sorted, rules)

pub returns : goal.returns
returns c = search (entities-wrote, rules)
