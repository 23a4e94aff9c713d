use Rattle.jsonclear.specs.Laws.Points.{Passing}
use Rattle.jsonclear.proofs.all_clear.Given as goal

abbrev pub invariant-loop-p : goal.invariant-loop-p
invariant-loop-p l = Passing l.s l.n l.p
