use Rattle.std.proofs.Common.{rules}
use Rattle.jsonmarks.proofs.Sets.{mark-some, mark_digest, mark-at, mark-set-at}
use Rattle.jsonmarks.proofs.table.mark.Goals as goal

pub slot_of-requires : goal.slot_of-requires
slot_of-requires c = search (mark-some, rules)

pub overflow_add-k : goal.overflow_add-k
overflow_add-k c = search (mark-at, rules)

pub bit_of-requires : goal.bit_of-requires
bit_of-requires c = search (mark_digest, rules)

pub bounds-names-k : goal.bounds-names-k
bounds-names-k c = search (mark-at, rules)

pub bounds-names-k-2 : goal.bounds-names-k-2
bounds-names-k-2 c = search (mark-at, rules)

pub returns : goal.returns
returns c = search (mark-set-at, rules)
