use Rattle.jsonmarks.proofs.Sets.{Marking}
use Rattle.jsonmarks.proofs.table.mark_all.Given as goal

abbrev pub invariant-loop-k : goal.invariant-loop-k
invariant-loop-k l = Marking l.line l.initial.names l.names l.first l.end l.from l.size l.k
