-- The greatest depth of what a value holds, a block at once where it is known
use Prim.Native.Nat.{◌-◌}
use Rattle.valuecheck.proofs.Parts.{Deep}
use Rattle.valuecheck.proofs.deepest.Given as goal

abbrev pub invariant-loop-i : goal.invariant-loop-i
invariant-loop-i l = Deep l.s l.v l.first l.items l.blocks l.best l.i

abbrev pub decreases-loop-i : goal.decreases-loop-i
decreases-loop-i l = l.items - l.i
