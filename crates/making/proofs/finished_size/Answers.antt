use Rattle.std.proofs.Common.{rules}
use Rattle.making.proofs.Rules.{summing_none, summing_more, summing_all}
use Rattle.making.proofs.finished_size.Goals as goal

pub loop-k-init : goal.loop-k-init
loop-k-init c = search (summing_none, rules)

pub loop-k-preserved : goal.loop-k-preserved
loop-k-preserved c = search (summing_more, rules)

pub returns : goal.returns
returns c = search (summing_all, rules)
