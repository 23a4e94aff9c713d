use Rattle.std.proofs.Common.{rules}
use Rattle.jsonread.proofs.Ahead.{look-start, look-end, look-escaped, look-inside, look_quotes, look-opens, look-closed, look-closes, look-comma, look-past, look-other}
use Rattle.jsonread.proofs.forms.closes_first.Goals as goal

pub loop-i-init : goal.loop-i-init
loop-i-init c = search (look-start, rules)

pub loop-i-preserved-in-Escaped : goal.loop-i-preserved-in-Escaped
loop-i-preserved-in-Escaped c = search (look-escaped, rules)

pub loop-i-preserved-in-Inside : goal.loop-i-preserved-in-Inside
loop-i-preserved-in-Inside c = search (look-inside, rules)

pub loop-i-preserved-in-Quotes : goal.loop-i-preserved-in-Quotes
loop-i-preserved-in-Quotes c = search (look_quotes, rules)

pub loop-i-preserved-in-Opens : goal.loop-i-preserved-in-Opens
loop-i-preserved-in-Opens c = search (look-opens, rules)

pub returns-then-depth-eq0 : goal.returns-then-depth-eq0
returns-then-depth-eq0 c = search (look-closed, rules)

pub loop-i-preserved-in-Closes : goal.loop-i-preserved-in-Closes
loop-i-preserved-in-Closes c = search (look-closes, rules)

pub returns-then-depth-eq0-2 : goal.returns-then-depth-eq0-2
returns-then-depth-eq0-2 c = search (look-comma, rules)

pub loop-i-preserved-in-Comma : goal.loop-i-preserved-in-Comma
loop-i-preserved-in-Comma c = search (look-past, rules)

pub loop-i-preserved : goal.loop-i-preserved
loop-i-preserved c = search (look-other, rules)

pub returns : goal.returns
returns c = search (look-end, rules)
