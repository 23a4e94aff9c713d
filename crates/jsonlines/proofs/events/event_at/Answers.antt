use Rattle.std.proofs.Common.{rules}
use Rattle.jsonread.proofs.Places.{passed}
use Rattle.jsonlines.proofs.Whole.{event-cut, event-empty, event-start, event_bad, bad_long, field_below, entry-within, event-long, event-end, event-wrong, close-above, event-over, event-less, event-on, over-above}
use Rattle.jsonlines.proofs.events.event_at.Goals as goal

pub returns-in_err-e : goal.returns-in_err-e
returns-in_err-e c = rw (passed c.from_residual.ensures.1) (search (event-cut, c.in_err-e.was, rules))

pub returns-in-Over : goal.returns-in-Over
returns-in-Over c = rw c.new.ensures (search (event-empty, c.in_ok-e.was, rules))

pub loop-field-init : goal.loop-field-init
loop-field-init c = search (event-start, c.in_ok-e.was, rules)

pub returns-in_err-field : goal.returns-in_err-field
returns-in_err-field c = rw (passed c.from_residual-in_err-field.ensures.1) (search (event_bad, c.in_err-field.was, rules))

pub bounds-seen-field : goal.bounds-seen-field
bounds-seen-field c = search (field_below, c.in_ok-field.was, rules)

pub turn_at-requires : goal.turn_at-requires
turn_at-requires c = search (entry-within, c.in_ok-field.was, rules)

pub returns-in_err-k : goal.returns-in_err-k
returns-in_err-k c = rw (passed c.from_residual-in_err-k.ensures.1) (search (event-wrong, c.in_ok-field.was, c.in_err-k.was, rules))

pub closed-requires : goal.closed-requires
closed-requires c = search (close-above, c.in_ok-field.was, c.in_ok-k.was, rules)

pub returns-in-Over-2 : goal.returns-in-Over-2
returns-in-Over-2 c = search (event-over, c.in_ok-field.was, c.in_ok-k.was, rules)

pub overflow_add-end : goal.overflow_add-end
overflow_add-end c = search (event-end, c.in_ok-field.was, rules)

pub loop-field-smaller : goal.loop-field-smaller
loop-field-smaller c = search (event-less, c.in_ok-field.was, c.in_ok-k.was, rules)

pub loop-field-preserved : goal.loop-field-preserved
loop-field-preserved c = search (event-on, c.in_ok-field.was, c.in_ok-k.was, rules)

pub overflow_sub-e : goal.overflow_sub-e
overflow_sub-e c = search (over-above, c.in_ok-e.was, rules)
