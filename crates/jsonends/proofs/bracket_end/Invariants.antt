use Prim.Native.Nat.{◌-◌}
use lib.ListN.{length}
use Rattle.jsonends.proofs.Ends.{Nesting}
use Rattle.jsonends.proofs.bracket_end.Given as goal

abbrev pub invariant-loop-depth : goal.invariant-loop-depth
invariant-loop-depth l = Nesting l.line l.at l.depth l.i

abbrev pub decreases-loop-depth : goal.decreases-loop-depth
decreases-loop-depth l = length l.line - l.i
