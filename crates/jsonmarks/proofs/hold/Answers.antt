use Rattle.std.proofs.Common.{rules}
use Rattle.jsonmarks.proofs.Keeps.{hold_due, hold_few, hold_part, hold_sorted, hold_room}
use Rattle.jsonmarks.proofs.hold.Goals as goal

pub slice_bounds-store-end-then-end-first-lt255 : goal.slice_bounds-store-end-then-end-first-lt255
slice_bounds-store-end-then-end-first-lt255 c = search (hold_part, rules)

pub store-requires : goal.store-requires
store-requires c = search (hold_sorted, hold_room, rules)

pub returns-then-end-first-lt255 : goal.returns-then-end-first-lt255
returns-then-end-first-lt255 c = search (hold_few, rules)

pub hold_many-requires : goal.hold_many-requires
hold_many-requires c = search (hold_due, rules)
