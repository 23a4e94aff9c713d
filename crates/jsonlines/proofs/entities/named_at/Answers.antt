use Rattle.std.proofs.Common.{rules}
use Rattle.jsonread.proofs.Places.{passed, told-within}
use Rattle.jsonlines.proofs.Triples.{name-unread, name-comma, name-there}
use Rattle.jsonlines.proofs.entities.named_at.Goals as goal

pub returns-in_err-e : goal.returns-in_err-e
returns-in_err-e c = rw (passed c.from_residual.ensures.1) (search (name-unread, c.in_err-e.was, rules))

pub skip_blanks-requires : goal.skip_blanks-requires
skip_blanks-requires c = search (told-within, c.in_ok-e.was, rules)

pub returns-in_err-c : goal.returns-in_err-c
returns-in_err-c c = rw (passed c.from_residual-in_err-c.ensures.1) (search (name-comma, c.in_ok-e.was, c.in_err-c.was, rules))

pub skip_blanks-requires-2 : goal.skip_blanks-requires-2
skip_blanks-requires-2 c = search (told-within, c.in_ok-c.was, rules)

pub returns : goal.returns
returns c = search (name-there, c.in_ok-e.was, c.in_ok-c.was, rules)
