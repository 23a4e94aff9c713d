use Rattle.std.proofs.Common.{rules}
use Rattle.jsonclear.specs.Laws.Points.{going-none, going-stop, going_more, going-all}
use Rattle.laws.specs.Checked.{checked-bodies}
use Rattle.jsonclear.proofs.entities_clear.Goals as goal

pub loop-i-init : goal.loop-i-init
loop-i-init c = search (going-none, rules)

pub list_at-requires : goal.list_at-requires
list_at-requires c = search (checked-bodies, rules)

pub returns-then-not-is_clear : goal.returns-then-not-is_clear
returns-then-not-is_clear c = search (going-stop, rules)

pub loop-i-preserved : goal.loop-i-preserved
loop-i-preserved c = search (going_more, rules)

pub returns : goal.returns
returns c = search (going-all, rules)
