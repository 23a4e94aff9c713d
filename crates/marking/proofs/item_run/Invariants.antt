use Rattle.marking.proofs.Tables.{ItemsTo}
use Prim.Native.Nat.{◌-◌}
use Rattle.marking.proofs.item_run.Given as goal

abbrev pub invariant-loop-i : goal.invariant-loop-i
invariant-loop-i l = ItemsTo l.f l.marks l.argument l.table l.first l.items l.i

abbrev pub decreases-loop-i : goal.decreases-loop-i
decreases-loop-i l = l.items - l.i
