use Rattle.std.proofs.Common.{rules}
use Rattle.jsonsizes.specs.Laws.Leaves.{named-first, named-second, leaf-plain, leaf-decimal, leaf-text, leaf-entity}
use Rattle.jsonsizes.proofs.leaf_size.Goals as goal

pub returns-then-kind-lt3 : goal.returns-then-kind-lt3
returns-then-kind-lt3 c = search (leaf-plain, rules)

pub counted-first-requires : goal.counted-first-requires
counted-first-requires c = search (named-first, rules)

pub returns-then-kind-lt4 : goal.returns-then-kind-lt4
returns-then-kind-lt4 c = search (leaf-decimal, rules)

pub returns-then-kind-lt5 : goal.returns-then-kind-lt5
returns-then-kind-lt5 c = search (leaf-text, rules)

pub counted-requires : goal.counted-requires
counted-requires c = search (named-second, rules)

pub returns : goal.returns
returns c = search (leaf-entity, rules)
