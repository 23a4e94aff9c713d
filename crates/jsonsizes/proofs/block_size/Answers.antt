use Rattle.std.proofs.Common.{rules}
use Rattle.jsonsizes.specs.Laws.Items.{adding-none, ready_at, adding-more, adding-all}
use Rattle.jsonsizes.proofs.block_size.Goals as goal

pub loop-i-init : goal.loop-i-init
loop-i-init c = search (adding-none, rules)

pub item_size-one-requires : goal.item_size-one-requires
item_size-one-requires c = search (ready_at, rules)

pub loop-i-preserved : goal.loop-i-preserved
loop-i-preserved c = search (adding-more, rules)

pub returns : goal.returns
returns c = search (adding-all, rules)
