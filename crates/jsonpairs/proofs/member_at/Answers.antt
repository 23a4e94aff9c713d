use Rattle.std.proofs.Common.{rules}
use Rattle.jsonread.proofs.Places.{passed, told-within}
use Rattle.jsonpairs.proofs.Words.{member-again, member-colon, member-value}
use Rattle.jsonpairs.proofs.member_at.Goals as goal

pub returns-then-before-gt0 : goal.returns-then-before-gt0
returns-then-before-gt0 c = search (member-again, rules)

pub returns-in_err-c : goal.returns-in_err-c
returns-in_err-c c = rw (passed c.from_residual.ensures.1) (search (member-colon, c.in_err-c.was, rules))

pub skip_blanks-requires-2 : goal.skip_blanks-requires-2
skip_blanks-requires-2 c = search (told-within, c.in_ok-c.was, rules)

pub returns : goal.returns
returns c = search (member-value, c.in_ok-c.was, rules)
