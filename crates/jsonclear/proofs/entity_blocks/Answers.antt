use Rattle.std.proofs.Common.{rules}
use Rattle.jsonclear.specs.Laws.Points.{blocking_none, blocking_in, blocking_more, blocking_all}
use Rattle.laws.specs.Checked.{checked-bodies}
use Rattle.jsonclear.proofs.entity_blocks.Goals as goal

pub list_count-requires : goal.list_count-requires
list_count-requires c = search (checked-bodies, rules)

pub loop-k-init : goal.loop-k-init
loop-k-init c = search (blocking_none, rules)

pub entities_clear-requires-clause-bound : goal.entities_clear-requires-clause-bound
entities_clear-requires-clause-bound c = search (blocking_in, rules)

pub loop-k-preserved : goal.loop-k-preserved
loop-k-preserved c = search (blocking_more, rules)

pub returns : goal.returns
returns c = search (blocking_all, rules)
