use Rattle.std.proofs.Common.{rules}
use Rattle.jsonread.proofs.Places.{passed}
use Rattle.jsonkeys.proofs.Cells.{passed-within}
use Rattle.jsonkeys.proofs.Listed.{list-cut, list-empty, list-start, list-within, list-room, list-long, list_bad, list-wrong, list_over, list-less, list_on}
use Rattle.jsonlines.proofs.entities.entities_at.Goals as goal

pub returns-in_err-e : goal.returns-in_err-e
returns-in_err-e c = rw (passed c.from_residual.ensures.1) (search (list-cut, c.in_err-e.was, rules))

pub returns-in-Over : goal.returns-in-Over
returns-in-Over c = search (list-empty, c.in_ok-e.was, rules)

pub loop-after-init : goal.loop-after-init
loop-after-init c = search (list-start, c.in_ok-e.was, rules)

pub entity_at-requires : goal.entity_at-requires
entity_at-requires c = search (list-within, list-room, rules)

pub returns-in_err-after : goal.returns-in_err-after
returns-in_err-after c = rw (passed c.from_residual-in_err-after.ensures.1) (search (list_bad, c.in_err-after.was, rules))

pub turn_at-requires : goal.turn_at-requires
turn_at-requires c = search (passed-within, c.in_ok-after.was, rules)

pub returns-in_err-k : goal.returns-in_err-k
returns-in_err-k c = rw (passed c.from_residual-in_err-k.ensures.1) (search (list-wrong, c.in_ok-after.was, c.in_err-k.was, rules))

pub returns-in-Over-2 : goal.returns-in-Over-2
returns-in-Over-2 c = search (list_over, c.in_ok-after.was, c.in_ok-k.was, rules)

pub loop-after-smaller : goal.loop-after-smaller
loop-after-smaller c = search (list-less, c.in_ok-after.was, c.in_ok-k.was, rules)

pub loop-after-preserved : goal.loop-after-preserved
loop-after-preserved c = search (list_on, c.in_ok-after.was, c.in_ok-k.was, rules)
