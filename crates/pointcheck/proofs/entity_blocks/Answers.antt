use Rattle.std.proofs.Common.{rules}
use Rattle.stringcheck.specs.Tables.{filling_none, filling_more, filling_all}
use Rattle.listruns.proofs.Runs.{thirds_few, thirds_all}
use Rattle.pointcheck.proofs.entity_blocks.Goals as goal

pub loop-k-init : goal.loop-k-init
loop-k-init c = search (filling_none, thirds_few, rules)

pub loop-k-preserved : goal.loop-k-preserved
loop-k-preserved c = search (filling_more, rules)

pub returns : goal.returns
returns c = search (filling_all, thirds_all, rules)
