use Rattle.jsonclear.specs.Laws.Points.{Blocking}
use Rattle.jsonclear.proofs.entity_blocks.Given as goal

abbrev pub invariant-loop-k : goal.invariant-loop-k
invariant-loop-k l = Blocking l.s l.marks l.n l.blocks l.k
