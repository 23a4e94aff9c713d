use Rattle.jsonnames.proofs.Moves.{Moving}
use Rattle.jsonnames.proofs.insert.Given as goal

abbrev pub invariant-loop-i : goal.invariant-loop-i
invariant-loop-i l = Moving l.cell l.end l.initial.names l.names l.i

abbrev pub decreases-loop-i : goal.decreases-loop-i
decreases-loop-i l = l.i
