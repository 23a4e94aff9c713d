use Rattle.std.proofs.Common.{◌-◌, ◌≤◌}
use Rattle.joining.proofs.guess.turn.Given as goal

abbrev pub invariant-loop-i : goal.invariant-loop-i
invariant-loop-i l = l.j ≤ l.high

abbrev pub decreases-loop-i : goal.decreases-loop-i
decreases-loop-i l = l.j - l.i
