use Rattle.std.proofs.Common.{rules}
use Rattle.jsonread.proofs.Places.{passed}
use Rattle.jsonkeys.proofs.Keys.{key-within, key-room}
use Rattle.jsonkeys.proofs.Listed.{list-cut, list-empty, list-start, list-within, list-room, list_bad, list-wrong, list_over, list-less, list_on}
use Rattle.jsonvalues.proofs.Objects.{object-cut, object-empty, object-start, member-key, member-value, member-within, member_below, object_bad, object-wrong, object-over, object-less, object-on}
use Rattle.jsonvalues.proofs.Values.{value-within, value-end, value-deep, value-array, value-scalar, value-object, value-entity, value-extension}
use Rattle.jsonvalues.proofs.+array_at_member_at_object_at_value_at.Goals as goal

pub array_at-returns-in_err-e : goal.array_at-returns-in_err-e
array_at-returns-in_err-e t c = rw (passed c.from_residual.ensures.1) (search (list-cut, c.in_err-e.was, rules))

pub array_at-returns-in-Over : goal.array_at-returns-in-Over
array_at-returns-in-Over t c = search (list-empty, c.in_ok-e.was, rules)

pub array_at-loop-after-init : goal.array_at-loop-after-init
array_at-loop-after-init t c = search (list-start, c.in_ok-e.was, rules)

pub array_at-value_at-requires : goal.array_at-value_at-requires
array_at-value_at-requires t c = search (list-within, list-room, rules)

pub array_at-returns-in_err-after : goal.array_at-returns-in_err-after
array_at-returns-in_err-after t c = rw (passed c.from_residual-in_err-after.ensures.1) (search (list_bad, c.in_err-after.was, rules))

pub array_at-turn_at-requires : goal.array_at-turn_at-requires
array_at-turn_at-requires t c = search (value-within, c.in_ok-after.was, rules)

pub array_at-returns-in_err-k : goal.array_at-returns-in_err-k
array_at-returns-in_err-k t c = rw (passed c.from_residual-in_err-k.ensures.1) (search (list-wrong, c.in_ok-after.was, c.in_err-k.was, rules))

pub array_at-returns-in-Over-2 : goal.array_at-returns-in-Over-2
array_at-returns-in-Over-2 t c = search (list_over, c.in_ok-after.was, c.in_ok-k.was, rules)

pub array_at-loop-after-smaller : goal.array_at-loop-after-smaller
array_at-loop-after-smaller t c = search (list-less, c.in_ok-after.was, c.in_ok-k.was, rules)

pub array_at-loop-after-preserved : goal.array_at-loop-after-preserved
array_at-loop-after-preserved t c = search (list_on, c.in_ok-after.was, c.in_ok-k.was, rules)

pub object_at-returns-in_err-e : goal.object_at-returns-in_err-e
object_at-returns-in_err-e t c = rw (passed c.from_residual.ensures.1) (search (object-cut, c.in_err-e.was, rules))

pub object_at-returns-in-Over : goal.object_at-returns-in-Over
object_at-returns-in-Over t c = search (object-empty, c.in_ok-e.was, rules)

pub object_at-loop-after-init : goal.object_at-loop-after-init
object_at-loop-after-init t c = search (object-start, c.in_ok-e.was, rules)

pub object_at-returns-in_err-after : goal.object_at-returns-in_err-after
object_at-returns-in_err-after t c = rw (passed c.from_residual-in_err-after.ensures.1) (search (object_bad, c.in_err-after.was, rules))

pub object_at-turn_at-requires : goal.object_at-turn_at-requires
object_at-turn_at-requires t c = search (member-within, c.in_ok-after.was, rules)

pub object_at-returns-in_err-k : goal.object_at-returns-in_err-k
object_at-returns-in_err-k t c = rw (passed c.from_residual-in_err-k.ensures.1) (search (object-wrong, c.in_ok-after.was, c.in_err-k.was, rules))

pub object_at-overflow_add-end : goal.object_at-overflow_add-end
object_at-overflow_add-end t c = search (member_below, c.in_ok-after.was, rules)

pub object_at-returns-in-Over-2 : goal.object_at-returns-in-Over-2
object_at-returns-in-Over-2 t c = search (object-over, c.in_ok-after.was, c.in_ok-k.was, rules)

pub object_at-loop-after-smaller : goal.object_at-loop-after-smaller
object_at-loop-after-smaller t c = search (object-less, c.in_ok-after.was, c.in_ok-k.was, rules)

pub object_at-loop-after-preserved : goal.object_at-loop-after-preserved
object_at-loop-after-preserved t c = search (object-on, c.in_ok-after.was, c.in_ok-k.was, rules)

pub member_at-value_at-requires : goal.member_at-value_at-requires
member_at-value_at-requires t c = search (key-within, key-room, c.in_ok-v.was, rules)

pub member_at-returns-in_err-v : goal.member_at-returns-in_err-v
member_at-returns-in_err-v t c = rw (passed c.from_residual.ensures.1) (search (member-key, c.in_err-v.was, rules))

pub member_at-returns : goal.member_at-returns
member_at-returns t c = search (member-value, c.in_ok-v.was, rules)

pub value_at-returns-then-line-at : goal.value_at-returns-then-line-at
value_at-returns-then-line-at t c = rw c.new.ensures (search (value-end, rules))

pub value_at-returns-then-levels-eq0 : goal.value_at-returns-then-levels-eq0
value_at-returns-then-levels-eq0 t c = rw c.new-then-levels-eq0.ensures (search (value-deep, rules))

pub value_at-returns-then-c-eq91 : goal.value_at-returns-then-c-eq91
value_at-returns-then-c-eq91 t c = search (value-array, rules)

pub value_at-returns-then-c-ne123 : goal.value_at-returns-then-c-ne123
value_at-returns-then-c-ne123 t c = search (value-scalar, rules)

pub value_at-returns-in-Plain : goal.value_at-returns-in-Plain
value_at-returns-in-Plain t c = search (value-object, rules)

pub value_at-returns-in-Entity : goal.value_at-returns-in-Entity
value_at-returns-in-Entity t c = search (value-entity, rules)

pub value_at-returns-in-Extension : goal.value_at-returns-in-Extension
value_at-returns-in-Extension t c = search (value-extension, rules)
