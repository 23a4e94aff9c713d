use Prim.Native.Nat.{◌-◌}
use lib.ListN.{length}
use Rattle.jsonpieces.proofs.Logs.{Logging}
use Rattle.jsonevents.proofs.log.put_log.Given as goal

abbrev pub invariant-loop-at : goal.invariant-loop-at
invariant-loop-at l = Logging l.text l.initial.names l.names l.initial.out l.out l.initial.marks l.marks l.b l.next l.at

abbrev pub decreases-loop-at : goal.decreases-loop-at
decreases-loop-at l = length l.text - l.at
