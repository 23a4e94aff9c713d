use Rattle.joining.proofs.Runs.{nth_down, nth_up}
use Rattle.std.proofs.Common.{rules}
use Rattle.joining.proofs.nth_of.Goals as goal

pub returns-then-down : goal.returns-then-down
returns-then-down c = search (nth_down, rules)

pub returns-else-down : goal.returns-else-down
returns-else-down c = search (nth_up, rules)
