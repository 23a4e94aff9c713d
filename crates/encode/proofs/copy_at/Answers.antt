use Rattle.std.proofs.Common.{rules}
use Rattle.encode.proofs.Out.{copied_none, copied_more, copied_all}
use Rattle.encode.proofs.copy_at.Goals as goal

pub loop-i-init : goal.loop-i-init
loop-i-init c = copied_none _ _ _

pub loop-i-preserved : goal.loop-i-preserved
loop-i-preserved c = search (copied_more, rules)

pub returns : goal.returns
returns c = search (copied_all, rules)
