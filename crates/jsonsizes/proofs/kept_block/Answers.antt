use Rattle.std.proofs.Common.{rules}
use Rattle.jsonsizes.specs.Laws.Items.{sums_known, sums_more, slot_in}
use Rattle.jsonsizes.proofs.kept_block.Goals as goal

pub bounds-sums-at : goal.bounds-sums-at
bounds-sums-at c = search (slot_in, rules)

pub returns-then-known-ne0-clause-value : goal.returns-then-known-ne0-clause-value
returns-then-known-ne0-clause-value c = search (sums_known, rules)

pub bounds-sums-at-2 : goal.bounds-sums-at-2
bounds-sums-at-2 c = search (slot_in, rules)

pub returns-clause-sums_2 : goal.returns-clause-sums_2
returns-clause-sums_2 c = search (sums_more, rules)
