use Rattle.std.proofs.Common.{◌-◌, ◌≤◌}
use Rattle.joining.proofs.guess.sort_groups.Given as goal

abbrev pub invariant-loop-low : goal.invariant-loop-low
invariant-loop-low l = l.low ≤ l.many

abbrev pub decreases-loop-low : goal.decreases-loop-low
decreases-loop-low l = l.many - l.low
