use Rattle.joining.proofs.Guessing.{Gathering}
use Rattle.joining.proofs.gather.Given as goal

abbrev pub invariant-loop-i : goal.invariant-loop-i
invariant-loop-i l = Gathering l.s l.kept l.initial.order l.many l.order l.seen l.n l.i
