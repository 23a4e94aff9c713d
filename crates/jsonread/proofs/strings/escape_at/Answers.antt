use Rattle.std.proofs.Common.{rules}
use Rattle.jsonread.proofs.Places.{passed}
use Rattle.jsonread.proofs.Hex.{escape_end, escape-simple, escape-other, escape-within, escape-below, escape-unit, escape-missing}
use Rattle.jsonread.proofs.strings.escape_at.Goals as goal

pub returns-then-line-at : goal.returns-then-line-at
returns-then-line-at c = search (escape_end, rules)

pub returns-then-b-ge128 : goal.returns-then-b-ge128
returns-then-b-ge128 c = rw c.new-then-b-ge128.ensures (search (escape-other, rules))

pub returns-then-line-at-ne117 : goal.returns-then-line-at-ne117
returns-then-line-at-ne117 c = search (escape-simple, rules)

pub character_at-requires : goal.character_at-requires
character_at-requires c = search (escape-within, escape-below, c.in_ok-u.was, rules)

pub returns-in_err-u : goal.returns-in_err-u
returns-in_err-u c = rw (passed c.from_residual.ensures.1) (search (escape-missing, c.in_err-u.was, rules))

pub returns : goal.returns
returns c = search (escape-unit, c.in_ok-u.was, rules)
