use Rattle.std.proofs.Common.{rules}
use Rattle.jsonread.proofs.Places.{passed, told-within}
use Rattle.jsonkeys.proofs.Keys.{key-cut, key-refused, key-unknown, key-colon, key-there, entered-within}
use Rattle.jsonkeys.proofs.key_at.Goals as goal

pub returns-then-line-at : goal.returns-then-line-at
returns-then-line-at c = rw c.new.ensures (search (key-cut, rules))

pub returns-in_err-e : goal.returns-in_err-e
returns-in_err-e c = rw (passed c.from_residual.ensures.1) (search (key-refused, c.in_err-e.was, rules))

pub returns-then-not-known : goal.returns-then-not-known
returns-then-not-known c = rw c.new-then-not-known.ensures (search (key-unknown, c.in_ok-e.was, rules))

pub skip_blanks-requires : goal.skip_blanks-requires
skip_blanks-requires c = search (entered-within, c.in_ok-e.was, rules)

pub returns-in_err-c : goal.returns-in_err-c
returns-in_err-c c = rw (passed c.from_residual-in_err-c.ensures.1) (search (key-colon, c.in_ok-e.was, c.in_err-c.was, rules))

pub skip_blanks-requires-2 : goal.skip_blanks-requires-2
skip_blanks-requires-2 c = search (told-within, c.in_ok-c.was, rules)

pub returns : goal.returns
returns c = search (key-there, c.in_ok-e.was, c.in_ok-c.was, rules)
