use Rattle.opening.proofs.Starts.{Reading}
use Rattle.opening.proofs.start.start_env.Given as goal

abbrev pub invariant-loop-x : goal.invariant-loop-x
invariant-loop-x l = Reading l.s l.start l.env l.x
