use Rattle.lookup.proofs.Dotted.{StandsFrom}
use Rattle.lookup.proofs.paths.stands_at.Given as goal

abbrev pub invariant-loop-i : goal.invariant-loop-i
invariant-loop-i l = StandsFrom l.t l.at l.name l.i
