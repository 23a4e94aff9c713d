use Rattle.jsonnames.proofs.Joins.{Copying}
use Rattle.jsonnames.proofs.merges.set_aside.Given as goal

abbrev pub invariant-loop-i : goal.invariant-loop-i
invariant-loop-i l = Copying l.mid l.high l.initial.names l.names l.i
