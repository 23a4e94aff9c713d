use Rattle.jsonnames.proofs.Carries.{Carrying}
use Rattle.jsonnames.proofs.runs.carry.Given as goal

abbrev pub invariant-loop-count : goal.invariant-loop-count
invariant-loop-count l = Carrying l.line l.initial.names l.names l.first l.end l.low l.count

abbrev pub decreases-loop-count : goal.decreases-loop-count
decreases-loop-count l = l.count
