use Rattle.std.proofs.Common.{rules}
use Rattle.laws.specs.Tests.{growing_none, growing_more, growing_all}
use Rattle.listruns.proofs.block_top.Goals as goal

pub loop-i-init : goal.loop-i-init
loop-i-init c = search (growing_none, rules)

pub loop-i-preserved : goal.loop-i-preserved
loop-i-preserved c = search (growing_more, rules)

pub returns : goal.returns
returns c = search (growing_all, rules)
