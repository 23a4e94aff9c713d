use Rattle.finish.proofs.Whole.{Contents}
use Rattle.finish.proofs.put_contents.Given as goal

abbrev pub invariant-loop-k : goal.invariant-loop-k
invariant-loop-k l = Contents l.s l.marks l.initial.out l.out l.k l.at
