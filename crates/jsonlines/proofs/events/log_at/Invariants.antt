use Prim.Native.Nat.{◌-◌}
use lib.ListN.{length}
use Rattle.jsonlines.proofs.Lines.{Logging}
use Rattle.jsonlines.proofs.events.log_at.Given as goal

abbrev pub invariant-loop-at : goal.invariant-loop-at
invariant-loop-at l = Logging l.text l.initial.names l.names l.at

abbrev pub decreases-loop-at : goal.decreases-loop-at
decreases-loop-at l = length l.text - l.at
