use Rattle.std.proofs.Common.{rules}
use Rattle.jsonsizes.specs.Laws.Tables.{tabled_none, tabled_more, tabled_all}
use Rattle.jsonsizes.specs.Laws.Items.{sums_none}
use Rattle.stringcheck.specs.Tables.{replicate-same}
use Rattle.laws.specs.Checked.{checked-bodies}
use Rattle.jsonsizes.proofs.value_sizes.Goals as goal

pub value_count-n-requires : goal.value_count-n-requires
value_count-n-requires c = search (checked-bodies, rules)

pub loop-v-init : goal.loop-v-init
loop-v-init c = search (tabled_none, sums_none, replicate-same, rules)

pub loop-v-preserved : goal.loop-v-preserved
loop-v-preserved c = search (tabled_more, rules)

pub returns : goal.returns
returns c = search (tabled_all, rules)
