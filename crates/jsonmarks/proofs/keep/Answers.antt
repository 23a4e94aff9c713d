use Rattle.std.proofs.Common.{rules}
use Rattle.jsonmarks.proofs.Keeps.{keep-order, keep-part, keep-sorted, keep-room, keep-absent, keep-put, keep-kept, digest_below}
use Rattle.jsonmarks.proofs.keep.Goals as goal

pub absent-requires : goal.absent-requires
absent-requires c = search (keep-absent, digest_below, rules)

pub overflow_sub-edge : goal.overflow_sub-edge
overflow_sub-edge c = search (keep-order, rules)

pub slice_bounds-put_last-end-then-absent : goal.slice_bounds-put_last-end-then-absent
slice_bounds-put_last-end-then-absent c = search (keep-part, rules)

pub put_last-requires : goal.put_last-requires
put_last-requires c = search (keep-put, rules)

pub returns-then-absent : goal.returns-then-absent
returns-then-absent c = search (keep-kept, rules)

pub slice_bounds-store-end-2 : goal.slice_bounds-store-end-2
slice_bounds-store-end-2 c = search (keep-part, rules)

pub store-requires : goal.store-requires
store-requires c = search (keep-sorted, keep-room, rules)

pub returns : goal.returns
returns c = search (keep-kept, rules)
