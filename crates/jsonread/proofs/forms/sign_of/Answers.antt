use Rattle.std.proofs.Common.{rules}
use Rattle.jsonread.proofs.Ahead.{sign_quotes, sign-brace, sign-bracket, sign-closed, sign-ended, sign-comma, sign-other}
use Rattle.jsonread.proofs.forms.sign_of.Goals as goal

pub returns-then-c-eq34 : goal.returns-then-c-eq34
returns-then-c-eq34 c = search (sign_quotes, rules)

pub returns-then-c-eq123 : goal.returns-then-c-eq123
returns-then-c-eq123 c = search (sign-brace, rules)

pub returns-then-c-eq91 : goal.returns-then-c-eq91
returns-then-c-eq91 c = search (sign-bracket, rules)

pub returns-then-c-eq125 : goal.returns-then-c-eq125
returns-then-c-eq125 c = search (sign-closed, rules)

pub returns-then-c-eq93 : goal.returns-then-c-eq93
returns-then-c-eq93 c = search (sign-ended, rules)

pub returns-then-c-eq44 : goal.returns-then-c-eq44
returns-then-c-eq44 c = search (sign-comma, rules)

pub returns : goal.returns
returns c = search (sign-other, rules)
