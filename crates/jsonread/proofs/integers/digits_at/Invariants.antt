use Prim.Native.Nat.{◌-◌}
use lib.ListN.{length}
use Rattle.jsonread.proofs.Counts.{Counting}
use Rattle.jsonread.proofs.integers.digits_at.Given as goal

abbrev pub invariant-loop-i : goal.invariant-loop-i
invariant-loop-i l = Counting l.line l.at l.n l.value l.i

abbrev pub decreases-loop-i : goal.decreases-loop-i
decreases-loop-i l = length l.line - l.i
