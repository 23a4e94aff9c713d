use Rattle.std.proofs.Common.{rules}
use Rattle.joining.proofs.Moves.{moving_none, moving_more, moving_all}
use Rattle.joining.proofs.move_up.Goals as goal

pub loop-j-init : goal.loop-j-init
loop-j-init c = search (moving_none, rules)

pub loop-j-preserved : goal.loop-j-preserved
loop-j-preserved c = search (moving_more, rules)

pub returns : goal.returns
returns c = search (moving_all, rules)
