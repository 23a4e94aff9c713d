use Rattle.std.proofs.Common.{rules}
use Rattle.jsonsizes.specs.Laws.Leaves.{leaf-named, leaf-counted}
use Rattle.jsonsizes.specs.Laws.Tables.{holder-readies, holder-inside, holder-counted}
use Rattle.jsonsizes.proofs.value_size.Goals as goal

pub leaf_size-requires : goal.leaf_size-requires
leaf_size-requires c = search (leaf-named, rules)

pub returns-then-h-lt6-clause-value : goal.returns-then-h-lt6-clause-value
returns-then-h-lt6-clause-value c = search (leaf-counted, rules)

pub run_size-requires-clause-readies : goal.run_size-requires-clause-readies
run_size-requires-clause-readies c = search (holder-readies, rules)

pub run_size-requires-clause-bound : goal.run_size-requires-clause-bound
run_size-requires-clause-bound c = search (holder-inside, rules)

pub returns-clause-value : goal.returns-clause-value
returns-clause-value c = search (holder-counted, rules)
