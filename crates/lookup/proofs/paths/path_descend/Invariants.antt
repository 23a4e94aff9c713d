use Rattle.lookup.proofs.Reach.{DescendFrom}
use Rattle.lookup.proofs.paths.path_descend.Given as goal

abbrev pub invariant-loop-i : goal.invariant-loop-i
invariant-loop-i l = DescendFrom l.s l.first l.i-end l.initial.at.0 l.at.0 l.i
