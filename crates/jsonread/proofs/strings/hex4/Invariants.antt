use Rattle.jsonread.proofs.Hex.{Hexing}
use Rattle.jsonread.proofs.strings.hex4.Given as goal

abbrev pub invariant-loop-left : goal.invariant-loop-left
invariant-loop-left l = Hexing l.line l.at l.n l.left l.i

abbrev pub decreases-loop-left : goal.decreases-loop-left
decreases-loop-left l = l.left
