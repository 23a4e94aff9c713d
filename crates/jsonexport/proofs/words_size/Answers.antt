use Rattle.std.proofs.Common.{rules}
use Rattle.jsonexport.specs.Laws.{wording_none, wording_full, wording_few, wording_more, wording_all}
use Rattle.laws.specs.Checked.{checked-bodies}
use Rattle.jsonexport.proofs.words_size.Goals as goal

pub loop-i-init : goal.loop-i-init
loop-i-init c = search (wording_none, rules)

pub returns-then-limit-sum : goal.returns-then-limit-sum
returns-then-limit-sum c = search (wording_full, rules)

pub list_at-requires : goal.list_at-requires
list_at-requires c = search (checked-bodies, rules)

pub added-sum-requires : goal.added-sum-requires
added-sum-requires c = search (wording_few, rules)

pub loop-i-preserved : goal.loop-i-preserved
loop-i-preserved c = search (wording_more, rules)

pub returns : goal.returns
returns c = search (wording_all, rules)
