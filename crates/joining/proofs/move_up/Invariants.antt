use Rattle.joining.proofs.Moves.{Moving}
use Rattle.joining.proofs.move_up.Given as goal

abbrev pub invariant-loop-j : goal.invariant-loop-j
invariant-loop-j l = Moving l.from l.n l.by l.j l.initial.a l.a

abbrev pub decreases-loop-j : goal.decreases-loop-j
decreases-loop-j l = l.j
