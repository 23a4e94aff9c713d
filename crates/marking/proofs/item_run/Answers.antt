use Rattle.std.proofs.Common.{rules}
use Rattle.marking.proofs.Tables.{items-to-none, items-end, items-all, items-no, items-on}
use Rattle.marking.proofs.item_run.Goals as goal

pub loop-i-init : goal.loop-i-init
loop-i-init c = search (items-to-none, rules)

pub returns-then-items-i : goal.returns-then-items-i
returns-then-items-i c = search (items-all, rules)

pub returns-then-not-is_item : goal.returns-then-not-is_item
returns-then-not-is_item c = search (items-no, rules)

pub loop-i-preserved : goal.loop-i-preserved
loop-i-preserved c = search (items-on, rules)

pub returns : goal.returns
returns c = search (items-end, rules)
