use Rattle.joining.proofs.Rules.{stands-not, stands-as}
use Rattle.std.proofs.Common.{rules}
use Rattle.joining.proofs.stands_at.Goals as goal

pub returns-then-p-n : goal.returns-then-p-n
returns-then-p-n c = search (stands-as, rules)

pub returns-else-p-n : goal.returns-else-p-n
returns-else-p-n c = search (stands-not, rules)
