use Rattle.jsonsizes.specs.Laws.Items.{Running}
use Prim.Native.Nat.{◌-◌}
use Rattle.jsonsizes.proofs.run_size.Given as goal

abbrev pub invariant-loop-i : goal.invariant-loop-i
invariant-loop-i l = Running l.s l.limit l.kind l.first l.items l.start l.sums l.i l.total

abbrev pub decreases-loop-i : goal.decreases-loop-i
decreases-loop-i l = l.items - l.i
