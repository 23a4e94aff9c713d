use Rattle.std.proofs.Common.{rules}
use Rattle.jsonread.proofs.Chars.{mark-within, mark-quote, mark_backslash, mark-control, mark-byte}
use Rattle.jsonread.proofs.strings.mark_of.Goals as goal

pub returns-then-not-is_ended : goal.returns-then-not-is_ended
returns-then-not-is_ended c = search (mark-within, rules)

pub returns-then-c-eq34 : goal.returns-then-c-eq34
returns-then-c-eq34 c = search (mark-quote, rules)

pub returns-then-c-eq92 : goal.returns-then-c-eq92
returns-then-c-eq92 c = search (mark_backslash, rules)

pub returns-then-c-lt32 : goal.returns-then-c-lt32
returns-then-c-lt32 c = search (mark-control, rules)

pub returns : goal.returns
returns c = search (mark-byte, rules)
