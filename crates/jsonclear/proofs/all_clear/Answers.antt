use Rattle.std.proofs.Common.{rules}
use Rattle.jsonclear.specs.Laws.Points.{passing-none, passing-there, passing-stop, passing-more, passing-all}
use Rattle.laws.specs.Checked.{checked-bodies}
use Rattle.jsonclear.proofs.all_clear.Goals as goal

pub point_count-n-requires : goal.point_count-n-requires
point_count-n-requires c = search (checked-bodies, rules)

pub loop-p-init : goal.loop-p-init
loop-p-init c = search (passing-none, rules)

pub point_clear-requires-clause-p_bound : goal.point_clear-requires-clause-p_bound
point_clear-requires-clause-p_bound c = search (passing-there, rules)

pub returns-then-not-point_clear : goal.returns-then-not-point_clear
returns-then-not-point_clear c = search (passing-stop, rules)

pub loop-p-preserved : goal.loop-p-preserved
loop-p-preserved c = search (passing-more, rules)

pub returns : goal.returns
returns c = search (passing-all, rules)
