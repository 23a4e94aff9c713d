use Rattle.joining.proofs.Guessing.{follows-none, follows-last}
use Rattle.std.proofs.Common.{rules}
use Rattle.joining.proofs.follows.Goals as goal

pub returns-then-n-eq0 : goal.returns-then-n-eq0
returns-then-n-eq0 c = search (follows-none, rules)

pub returns-else-n-eq0 : goal.returns-else-n-eq0
returns-else-n-eq0 c = search (follows-last, rules)
