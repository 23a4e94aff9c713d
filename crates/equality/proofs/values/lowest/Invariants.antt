use Rattle.equality.proofs.Joining.{Leading}
use Rattle.equality.proofs.values.lowest.Given as goal

abbrev pub invariant-loop-d : goal.invariant-loop-d
invariant-loop-d l = Leading l.s l.lower l.v l.k l.d

abbrev pub decreases-loop-d : goal.decreases-loop-d
decreases-loop-d l = l.k
