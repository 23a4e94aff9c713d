use Rattle.jsonnames.proofs.Looks.{Looking}
use Rattle.jsonnames.proofs.runs.look.Given as goal

abbrev pub invariant-loop-count : goal.invariant-loop-count
invariant-loop-count l = Looking l.line l.names l.first l.stop l.at l.size l.count l.high

abbrev pub decreases-loop-count : goal.decreases-loop-count
decreases-loop-count l = l.count
