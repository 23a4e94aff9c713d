use Rattle.jsonruns.proofs.Signs.{ahead}
use Rattle.jsonentities.proofs.Keeping.{Collecting}
use Rattle.jsonentities.proofs.sorting.sort_entities.Given as goal

abbrev pub invariant-loop-part : goal.invariant-loop-part
invariant-loop-part l = Collecting l.line l.at l.initial.names l.names l.count l.part

abbrev pub decreases-loop-part : goal.decreases-loop-part
decreases-loop-part l = ahead l.line l.part
