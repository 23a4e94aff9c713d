use Rattle.std.proofs.Common.{rules}
use Rattle.stringcheck.specs.Tables.{filling_none, filling_more, filling_all}
use Rattle.listruns.proofs.Runs.{blocks-few, blocks-all}
use Rattle.listruns.proofs.list_tops.Goals as goal

pub loop-b-init : goal.loop-b-init
loop-b-init c = search (filling_none, blocks-few, rules)

pub loop-b-preserved : goal.loop-b-preserved
loop-b-preserved c = search (filling_more, rules)

pub returns : goal.returns
returns c = search (filling_all, blocks-all, rules)
