use Rattle.jsonread.proofs.Ahead.{Looking}
use Prim.Native.Nat.{◌-◌}
use lib.ListN.{length}
use Rattle.jsonread.proofs.forms.closes_first.Given as goal

abbrev pub invariant-loop-i : goal.invariant-loop-i
invariant-loop-i l = Looking l.line l.at l.side l.depth l.i

abbrev pub decreases-loop-i : goal.decreases-loop-i
decreases-loop-i l = length l.line - l.i
