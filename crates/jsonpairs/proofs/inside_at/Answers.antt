use Rattle.std.proofs.Common.{rules}
use Rattle.jsonpairs.proofs.Words.{inside-end, inside-not, inside-there}
use Rattle.jsonpairs.proofs.inside_at.Goals as goal

pub returns-then-line-at : goal.returns-then-line-at
returns-then-line-at c = search (inside-end, rules)

pub returns-then-c-ne123 : goal.returns-then-c-ne123
returns-then-c-ne123 c = search (inside-not, rules)

pub returns : goal.returns
returns c = search (inside-there, rules)
