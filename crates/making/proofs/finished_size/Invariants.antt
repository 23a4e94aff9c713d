use Rattle.making.proofs.Rules.{Summing}
use Rattle.making.proofs.finished_size.Given as goal

abbrev pub invariant-loop-k : goal.invariant-loop-k
invariant-loop-k l = Summing l.s l.marks l.k l.size
