use Rattle.jsonexport.specs.Laws.{Lengthening}
use Rattle.jsonexport.proofs.lines_size.Given as goal

abbrev pub invariant-loop-p : goal.invariant-loop-p
invariant-loop-p l = Lengthening l.s l.limit l.n l.p l.sum
