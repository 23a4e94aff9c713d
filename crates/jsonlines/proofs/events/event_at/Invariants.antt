use Prim.Native.Nat.{◌-◌}
use lib.ListN.{length}
use Rattle.jsonlines.proofs.Whole.{Reading}
use Rattle.jsonlines.proofs.events.event_at.Given as goal

abbrev pub invariant-loop-field : goal.invariant-loop-field
invariant-loop-field l = Reading l.line l.initial.names l.names l.at l.end l.i l.seen

abbrev pub decreases-loop-field : goal.decreases-loop-field
decreases-loop-field l = length l.line - l.i
