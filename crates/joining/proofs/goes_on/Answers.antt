use Rattle.joining.proofs.Runs.{goes_down, goes-up}
use Rattle.std.proofs.Common.{rules}
use Rattle.joining.proofs.goes_on.Goals as goal

pub returns-then-down : goal.returns-then-down
returns-then-down c = search (goes_down, rules)

pub returns-else-down : goal.returns-else-down
returns-else-down c = search (goes-up, rules)
