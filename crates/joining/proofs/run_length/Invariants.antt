use Rattle.joining.specs.Run.{Run}
use Rattle.joining.proofs.run_length.Given as goal

abbrev pub invariant-loop-k : goal.invariant-loop-k
invariant-loop-k l = Run l.s l.many l.down l.k
