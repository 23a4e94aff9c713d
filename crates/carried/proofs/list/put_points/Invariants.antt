use Rattle.carried.proofs.Laid.{Putting}
use Rattle.carried.proofs.list.put_points.Given as goal

abbrev pub invariant-loop-k : goal.invariant-loop-k
invariant-loop-k l = Putting l.j l.n l.initial.list l.k l.list
