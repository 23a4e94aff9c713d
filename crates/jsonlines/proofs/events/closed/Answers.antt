use Rattle.std.proofs.Common.{rules}
use Rattle.jsonlines.proofs.Whole.{closed-whole, closed-not}
use Rattle.jsonlines.proofs.events.closed.Goals as goal

pub returns-then-is_whole : goal.returns-then-is_whole
returns-then-is_whole c = search (closed-whole, rules)

pub returns : goal.returns
returns c = rw c.new.ensures (search (closed-not, rules))
