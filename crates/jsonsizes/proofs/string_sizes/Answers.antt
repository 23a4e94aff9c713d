use Rattle.std.proofs.Common.{rules}
use Rattle.jsonsizes.specs.Laws.Tables.{spelt-none, spelt-more, spelt-all}
use Rattle.laws.specs.Checked.{checked-bodies}
use Rattle.jsonsizes.proofs.string_sizes.Goals as goal

pub string_count-n-requires : goal.string_count-n-requires
string_count-n-requires c = search (checked-bodies, rules)

pub loop-k-init : goal.loop-k-init
loop-k-init c = search (spelt-none, rules)

pub loop-k-preserved : goal.loop-k-preserved
loop-k-preserved c = search (spelt-more, rules)

pub returns : goal.returns
returns c = search (spelt-all, rules)
