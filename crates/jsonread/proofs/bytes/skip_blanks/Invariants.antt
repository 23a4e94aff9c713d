use Rattle.jsonread.proofs.Due.{Skipping}
use Prim.Native.Nat.{◌-◌}
use lib.ListN.{length}
use Rattle.jsonread.proofs.bytes.skip_blanks.Given as goal

abbrev pub invariant-loop-i : goal.invariant-loop-i
invariant-loop-i l = Skipping l.line l.at l.i

abbrev pub decreases-loop-i : goal.decreases-loop-i
decreases-loop-i l = length l.line - l.i
