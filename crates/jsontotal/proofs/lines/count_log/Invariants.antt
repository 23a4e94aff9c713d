use Prim.Native.Nat.{◌-◌}
use lib.ListN.{length}
use Rattle.jsontotal.proofs.Totals.{Totalling}
use Rattle.jsontotal.proofs.lines.count_log.Given as goal

abbrev pub invariant-loop-at : goal.invariant-loop-at
invariant-loop-at l = Totalling l.text l.tally l.at

abbrev pub decreases-loop-at : goal.decreases-loop-at
decreases-loop-at l = length l.text - l.at
