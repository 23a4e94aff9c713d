use Rattle.jsonnames.proofs.Gathers.{Gathering}
use Rattle.jsonnames.proofs.runs.gather.Given as goal

abbrev pub invariant-loop-count : goal.invariant-loop-count
invariant-loop-count l = Gathering l.line l.initial.names l.names l.first l.end l.low l.size l.count

abbrev pub decreases-loop-count : goal.decreases-loop-count
decreases-loop-count l = l.count
