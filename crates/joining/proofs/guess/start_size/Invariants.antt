use Rattle.std.proofs.Common.{◌-◌, ◌≤◌, length}
use Rattle.joining.proofs.guess.start_size.Given as goal

abbrev pub invariant-loop-k : goal.invariant-loop-k
invariant-loop-k l = (l.most ≤ length l.first) × (l.k ≤ l.high - l.low)

abbrev pub decreases-loop-k : goal.decreases-loop-k
decreases-loop-k l = l.k
