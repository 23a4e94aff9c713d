use Rattle.jsonruns.proofs.Signs.{ahead}
use Rattle.jsonadds.proofs.Passing.{ItemsPassing}
use Rattle.jsonleaf.proofs.parts.count_items.Given as goal

abbrev pub invariant-loop-part : goal.invariant-loop-part
invariant-loop-part l = ItemsPassing l.levels l.line l.at l.count l.part

abbrev pub decreases-loop-part : goal.decreases-loop-part
decreases-loop-part l = ahead l.line l.part
