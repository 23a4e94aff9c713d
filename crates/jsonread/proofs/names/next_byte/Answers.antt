use Rattle.std.proofs.Common.{rules}
use Rattle.jsonread.proofs.Spelling.{next-third, next-second, next_last, next-none, next-quote, next-escape, next-wrong, next-plain, char_below}
use Rattle.jsonread.proofs.names.next_byte.Goals as goal

pub returns-then-c-eq3 : goal.returns-then-c-eq3
returns-then-c-eq3 c = search (next-third, rules)

pub returns-then-c-eq2 : goal.returns-then-c-eq2
returns-then-c-eq2 c = search (next-second, rules)

pub returns-then-c-eq1 : goal.returns-then-c-eq1
returns-then-c-eq1 c = search (next_last, rules)

pub returns-then-b-eq34 : goal.returns-then-b-eq34
returns-then-b-eq34 c = search (next-quote, rules)

pub first_byte-requires : goal.first_byte-requires
first_byte-requires c = search (char_below, rules)

pub returns : goal.returns
returns c = search (next-plain, rules)

pub returns-then-line-c : goal.returns-then-line-c
returns-then-line-c c = search (next-none, rules)

pub returns-in_default : goal.returns-in_default
returns-in_default c = search (next-wrong, rules)

pub returns-then-b-eq92 : goal.returns-then-b-eq92
returns-then-b-eq92 c = search (next-escape, rules)
