use Rattle.std.proofs.Common.{rules}
use Rattle.jsonread.proofs.Places.{passed, told-within}
use Rattle.jsonpairs.proofs.Words.{only-unread, only-colon, only-inside, only-last}
use Rattle.jsonpairs.proofs.only_at.Goals as goal

pub returns-in_err-after : goal.returns-in_err-after
returns-in_err-after c = rw (passed c.from_residual.ensures.1) (search (only-unread, c.in_err-after.was, rules))

pub returns-in_err-c : goal.returns-in_err-c
returns-in_err-c c = rw (passed c.from_residual-in_err-c.ensures.1) (search (only-colon, c.in_ok-after.was, c.in_err-c.was, rules))

pub returns-in_err-e : goal.returns-in_err-e
returns-in_err-e c = rw (passed c.from_residual-in_err-e.ensures.1) (search (only-inside, c.in_ok-after.was, c.in_ok-c.was, c.in_err-e.was, rules))

pub returns : goal.returns
returns c = search (only-last, c.in_ok-after.was, c.in_ok-c.was, c.in_ok-e.was, rules)

pub skip_blanks-requires-2 : goal.skip_blanks-requires-2
skip_blanks-requires-2 c = search (told-within, c.in_ok-after.was, rules)

pub skip_blanks-requires-3 : goal.skip_blanks-requires-3
skip_blanks-requires-3 c = search (told-within, c.in_ok-c.was, rules)

pub skip_blanks-requires-4 : goal.skip_blanks-requires-4
skip_blanks-requires-4 c = search (told-within, c.in_ok-e.was, rules)
