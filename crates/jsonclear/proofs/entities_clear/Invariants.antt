use Rattle.jsonclear.specs.Laws.Points.{Going}
use Rattle.jsonclear.proofs.entities_clear.Given as goal

abbrev pub invariant-loop-i : goal.invariant-loop-i
invariant-loop-i l = Going l.s l.marks l.first l.items l.i
