use Prim.Native.Nat.{◌-◌}
use lib.ListN.{length}
use Rattle.jsonspelt.proofs.Going.{Going}
use Rattle.jsonspelt.proofs.spelt_at.Given as goal

abbrev pub invariant-loop-i : goal.invariant-loop-i
invariant-loop-i l = Going l.line l.at l.bytes l.i

abbrev pub decreases-loop-i : goal.decreases-loop-i
decreases-loop-i l = length l.line - l.i
