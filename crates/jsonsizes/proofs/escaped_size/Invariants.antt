use Rattle.jsonsizes.specs.Laws.Leaves.{Measuring}
use Rattle.jsonsizes.proofs.escaped_size.Given as goal

abbrev pub invariant-loop-c : goal.invariant-loop-c
invariant-loop-c l = Measuring l.t l.limit l.c-index l.total
