use Rattle.std.proofs.Common.{rules}
use Rattle.jsonread.proofs.Places.{passed, told-within}
use Rattle.jsonpairs.proofs.Turns.{next-unread, next-neither, next-one_bad, next_one, next-two_bad, next-two}
use Rattle.jsonpairs.proofs.next_at.Goals as goal

pub returns-in_err-after : goal.returns-in_err-after
returns-in_err-after c = rw (passed c.from_residual.ensures.1) (search (next-unread, c.in_err-after.was, rules))

pub member_at-requires : goal.member_at-requires
member_at-requires c = search (told-within, c.in_ok-after.was, rules)

pub returns-in-Neither : goal.returns-in-Neither
returns-in-Neither c = rw c.new.ensures (search (next-neither, c.in_ok-after.was, rules))

pub returns-in_err-e-in-First : goal.returns-in_err-e-in-First
returns-in_err-e-in-First c = rw (passed c.from_residual-in_err-e-in-First.ensures.1) (search (next-one_bad, c.in_ok-after.was, c.in_err-e-in-First.was, rules))

pub turn_at-requires : goal.turn_at-requires
turn_at-requires c = search (told-within, c.in_ok-e-in-First.was, rules)

pub member_at-requires-in-Second : goal.member_at-requires-in-Second
member_at-requires-in-Second c = search (told-within, c.in_ok-after.was, rules)

pub returns-in_err-e-in-Second : goal.returns-in_err-e-in-Second
returns-in_err-e-in-Second c = rw (passed c.from_residual-in_err-e-in-Second.ensures.1) (search (next-two_bad, c.in_ok-after.was, c.in_err-e-in-Second.was, rules))

pub turn_at-requires-in-Second : goal.turn_at-requires-in-Second
turn_at-requires-in-Second c = search (told-within, c.in_ok-e-in-Second.was, rules)

pub returns-in_ok-e-in-First : goal.returns-in_ok-e-in-First
returns-in_ok-e-in-First c = search (next_one, c.in_ok-after.was, c.in_ok-e-in-First.was, rules)

pub returns-in_ok-e-in-Second : goal.returns-in_ok-e-in-Second
returns-in_ok-e-in-Second c = search (next-two, c.in_ok-after.was, c.in_ok-e-in-Second.was, rules)
