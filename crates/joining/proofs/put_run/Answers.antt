use Rattle.joining.proofs.Runs.{counting_none, counting_more, counting_all}
use Rattle.std.proofs.Common.{rules}
use Rattle.joining.proofs.put_run.Goals as goal

pub loop-i-init : goal.loop-i-init
loop-i-init c = search (counting_none, rules)

pub loop-i-preserved : goal.loop-i-preserved
loop-i-preserved c = search (counting_more, rules)

pub returns : goal.returns
returns c = search (counting_all, rules)
