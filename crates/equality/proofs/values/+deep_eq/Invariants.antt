use Rattle.equality.proofs.Joining.{Deep}
use Rattle.equality.proofs.values.+deep_eq.Given as goal

abbrev pub decreases-deep_eq : goal.decreases-deep_eq
decreases-deep_eq l = l.a.0

abbrev pub invariant-loop-i : goal.invariant-loop-i
invariant-loop-i l = Deep l.s l.lower l.a.0 l.b.0 l.runs l.i
