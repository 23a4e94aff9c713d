use Rattle.std.proofs.Common.{rules}
use Rattle.stringcheck.specs.Tables.{filling_none, filling_more, filling_all}
use Rattle.nodecheck.proofs.Blocks.{blocks-few, blocks-all}
use Rattle.nodecheck.proofs.argument_tops.Goals as goal

pub loop-k-init : goal.loop-k-init
loop-k-init c = search (filling_none, blocks-few, rules)

pub loop-k-preserved : goal.loop-k-preserved
loop-k-preserved c = search (filling_more, rules)

pub returns : goal.returns
returns c = search (filling_all, blocks-all, rules)
