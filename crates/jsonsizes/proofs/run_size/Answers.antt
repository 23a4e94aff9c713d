use Rattle.std.proofs.Common.{rules}
use Rattle.jsonsizes.specs.Laws.Items.{running_none, running-ready, running-one, running_in, running-few, running-block, running-all, running_sums}
use Rattle.jsonsizes.proofs.run_size.Goals as goal

pub loop-i-init : goal.loop-i-init
loop-i-init c = search (running_none, rules)

pub item_size-one-requires : goal.item_size-one-requires
item_size-one-requires c = search (running-ready, rules)

pub loop-i-preserved-then-at-ne0 : goal.loop-i-preserved-then-at-ne0
loop-i-preserved-then-at-ne0 c = search (running-one, rules)

pub kept_block-block-requires-clause-readies : goal.kept_block-block-requires-clause-readies
kept_block-block-requires-clause-readies c = search (running_in, rules)

pub kept_block-block-requires-clause-b_bound : goal.kept_block-block-requires-clause-b_bound
kept_block-block-requires-clause-b_bound c = search (running-few, rules)

pub kept_block-block-requires-clause-sums : goal.kept_block-block-requires-clause-sums
kept_block-block-requires-clause-sums c = search (running_sums, rules)

pub loop-i-preserved : goal.loop-i-preserved
loop-i-preserved c = search (running-block, rules)

pub returns-clause-value : goal.returns-clause-value
returns-clause-value c = search (running-all, rules)

pub returns-clause-sums_2 : goal.returns-clause-sums_2
returns-clause-sums_2 c = search (running_sums, rules)
