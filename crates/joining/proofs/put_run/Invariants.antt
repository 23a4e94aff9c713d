use Rattle.joining.proofs.Runs.{Counting}
use Rattle.joining.proofs.put_run.Given as goal

abbrev pub invariant-loop-i : goal.invariant-loop-i
invariant-loop-i l = Counting l.down l.n l.i l.initial.order l.order
