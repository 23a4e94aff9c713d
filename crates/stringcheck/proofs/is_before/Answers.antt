use Rattle.std.proofs.Common.{rules}
use Rattle.stringcheck.proofs.Orders.{alike-none, alike-more, alike-not, alike-less, alike_all}
use Rattle.stringcheck.proofs.is_before.Goals as goal

pub loop-i-init : goal.loop-i-init
loop-i-init c = search (alike-none, rules)

pub returns-then-a-b : goal.returns-then-a-b
returns-then-a-b c = search (alike-not, rules)

pub loop-i-smaller : goal.loop-i-smaller
loop-i-smaller c = search (alike-less, rules)

pub loop-i-preserved : goal.loop-i-preserved
loop-i-preserved c = search (alike-more, rules)

pub returns : goal.returns
returns c = search (alike_all, rules)
