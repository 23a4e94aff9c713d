use Rattle.std.proofs.Common.{rules}
use Rattle.jsonmarks.proofs.Sets.{mark-some, mark-shift, mark-at, mark-told-at}
use Rattle.jsonmarks.proofs.table.is_marked.Goals as goal

pub slot_of-requires : goal.slot_of-requires
slot_of-requires c = search (mark-some, rules)

pub overflow_add-k : goal.overflow_add-k
overflow_add-k c = search (mark-at, rules)

pub bounds-names-k : goal.bounds-names-k
bounds-names-k c = search (mark-at, rules)

pub overflow_shr-result : goal.overflow_shr-result
overflow_shr-result c = search (mark-shift, rules)

pub returns : goal.returns
returns c = search (mark-told-at, rules)
