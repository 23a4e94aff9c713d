use Rattle.jsonsizes.specs.Laws.Tables.{Spelt}
use Rattle.jsonsizes.proofs.string_sizes.Given as goal

abbrev pub invariant-loop-k : goal.invariant-loop-k
invariant-loop-k l = Spelt l.s l.limit l.n l.sizes l.k
