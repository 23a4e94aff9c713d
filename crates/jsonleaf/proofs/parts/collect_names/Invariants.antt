use Rattle.jsonruns.proofs.Signs.{ahead}
use Rattle.jsonadds.proofs.Sorting.{Collecting}
use Rattle.jsonleaf.proofs.parts.collect_names.Given as goal

abbrev pub invariant-loop-part : goal.invariant-loop-part
invariant-loop-part l = Collecting l.levels l.line l.at l.initial.names l.names l.used l.count l.part

abbrev pub decreases-loop-part : goal.decreases-loop-part
decreases-loop-part l = ahead l.line l.part
