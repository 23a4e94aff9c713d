use Rattle.std.proofs.Common.{rules}
use Rattle.jsonread.proofs.Firsts.{first-brace, first-bracket, first-quote, first_t, first-f, first-n, first-other}
use Rattle.jsonread.proofs.begins.is_first.Goals as goal

pub returns-in-123 : goal.returns-in-123
returns-in-123 c = search (first-brace, rules)

pub returns-in-91 : goal.returns-in-91
returns-in-91 c = search (first-bracket, rules)

pub returns-in-34 : goal.returns-in-34
returns-in-34 c = search (first-quote, rules)

pub returns-in-116 : goal.returns-in-116
returns-in-116 c = search (first_t, rules)

pub returns-in-102 : goal.returns-in-102
returns-in-102 c = search (first-f, rules)

pub returns-in-110 : goal.returns-in-110
returns-in-110 c = search (first-n, rules)

pub returns-in_default : goal.returns-in_default
returns-in_default c = search (first-other, rules)
