use Rattle.joining.proofs.Rules.{Merging}
use Rattle.joining.proofs.merge.Given as goal

abbrev pub invariant-loop-j : goal.invariant-loop-j
invariant-loop-j l = Merging l.initial.order l.n l.fresh l.places l.m l.order l.end l.j

abbrev pub decreases-loop-j : goal.decreases-loop-j
decreases-loop-j l = l.j
