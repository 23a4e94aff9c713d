use Rattle.std.proofs.Common.{rules}
use Rattle.marking.proofs.Tables.{items-none, items_more}
use Rattle.marking.proofs.item_table.Goals as goal

pub loop-i-init : goal.loop-i-init
loop-i-init c = search (items-none, rules)

pub loop-i-preserved : goal.loop-i-preserved
loop-i-preserved c = search (items_more, rules)
