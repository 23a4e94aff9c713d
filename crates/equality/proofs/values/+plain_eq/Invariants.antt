use Rattle.equality.proofs.Alike.{Looking}
use Rattle.equality.proofs.values.+plain_eq.Given as goal

abbrev pub decreases-plain_eq : goal.decreases-plain_eq
decreases-plain_eq l = l.a.0

abbrev pub invariant-loop-i : goal.invariant-loop-i
invariant-loop-i l = Looking l.s l.left l.runs l.i
