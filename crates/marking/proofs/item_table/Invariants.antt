use Rattle.marking.proofs.Tables.{ItemsKnown}
use Rattle.marking.proofs.item_table.Given as goal

abbrev pub invariant-loop-i : goal.invariant-loop-i
invariant-loop-i l = ItemsKnown l.f l.marks l.argument l.table l.here l.next l.last l.i
