use Rattle.joining.proofs.Guessing.{Seeing}
use Rattle.joining.proofs.all_seen.Given as goal

abbrev pub invariant-loop-i : goal.invariant-loop-i
invariant-loop-i l = Seeing l.seen l.n l.i
