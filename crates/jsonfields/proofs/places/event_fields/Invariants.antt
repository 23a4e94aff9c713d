use Rattle.jsonruns.proofs.Signs.{ahead}
use Rattle.jsonfields.proofs.Events.{PlacingAt}
use Rattle.jsonfields.proofs.places.event_fields.Given as goal

abbrev pub invariant-loop-part : goal.invariant-loop-part
invariant-loop-part l = PlacingAt l.line l.at l.part l.places

abbrev pub decreases-loop-part : goal.decreases-loop-part
decreases-loop-part l = ahead l.line l.part
