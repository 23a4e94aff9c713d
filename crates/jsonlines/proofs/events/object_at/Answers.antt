use Rattle.std.proofs.Common.{rules}
use Rattle.jsonlines.proofs.Lines.{brace-end, brace-not, brace-there}
use Rattle.jsonlines.proofs.events.object_at.Goals as goal

pub returns-then-line-at : goal.returns-then-line-at
returns-then-line-at c = rw c.new.ensures (search (brace-end, rules))

pub returns-then-c-ne123 : goal.returns-then-c-ne123
returns-then-c-ne123 c = rw c.new-then-c-ne123.ensures (search (brace-not, rules))

pub returns : goal.returns
returns c = search (brace-there, rules)
