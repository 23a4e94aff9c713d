use Rattle.quick.proofs.Arguments.{Trying}
use Rattle.quick.proofs.fit_all.Given as goal

abbrev pub invariant-loop-k : goal.invariant-loop-k
invariant-loop-k l = Trying l.s l.asked l.i l.first l.k-end l.k
