use Rattle.jsonexport.specs.Laws.{Wording}
use Rattle.jsonexport.proofs.words_size.Given as goal

abbrev pub invariant-loop-i : goal.invariant-loop-i
invariant-loop-i l = Wording l.s l.limit l.first l.items l.total l.i l.sum
