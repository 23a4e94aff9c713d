use Rattle.jsonsizes.specs.Laws.Items.{Adding}
use Rattle.jsonsizes.proofs.block_size.Given as goal

abbrev pub invariant-loop-i : goal.invariant-loop-i
invariant-loop-i l = Adding l.s l.limit l.kind l.at l.i l.total
