use Rattle.carried.proofs.Asked.{Lefts}
use Rattle.carried.proofs.turns.left_after.Given as goal

abbrev pub invariant-loop-k : goal.invariant-loop-k
invariant-loop-k l = Lefts l.s l.call l.env l.l.0 l.j l.initial.work l.k l.work
