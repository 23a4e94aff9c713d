use Rattle.jsonexport.specs.Laws.{Entering}
use Rattle.jsonexport.proofs.entities_size.Given as goal

abbrev pub invariant-loop-i : goal.invariant-loop-i
invariant-loop-i l = Entering l.s l.limit l.first l.items l.total l.i l.sum
