use Rattle.jsonsizes.specs.Laws.Tables.{Tabled}
use Rattle.jsonsizes.proofs.value_sizes.Given as goal

abbrev pub invariant-loop-v : goal.invariant-loop-v
invariant-loop-v l = Tabled l.s l.limit l.n l.sizes l.sums l.v
