use Rattle.jsonclear.specs.Laws.Values.{Marking}
use Rattle.jsonclear.proofs.clear_values.Given as goal

abbrev pub invariant-loop-v : goal.invariant-loop-v
invariant-loop-v l = Marking l.s l.n l.marks l.blocks l.v
