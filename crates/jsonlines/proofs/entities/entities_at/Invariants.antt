use Prim.Native.Nat.{◌-◌}
use lib.ListN.{length}
use Rattle.jsonkeys.proofs.Listed.{Listing}
use Rattle.jsonlines.specs.Entities.{entity_of}
use Rattle.jsonlines.proofs.entities.entities_at.Given as goal

abbrev pub invariant-loop-after : goal.invariant-loop-after
invariant-loop-after l = Listing entity_of l.line l.initial.names l.names l.used l.at l.i

abbrev pub decreases-loop-after : goal.decreases-loop-after
decreases-loop-after l = length l.line - l.i
