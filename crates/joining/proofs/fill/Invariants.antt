use Rattle.joining.proofs.Rules.{Filling}
use Rattle.std.proofs.Common.{length}
use Rattle.joining.proofs.fill.Given as goal

abbrev pub invariant-loop-k : goal.invariant-loop-k
invariant-loop-k l = Filling l.s l.order l.n l.from l.many (length l.initial.fresh) (length l.initial.places) l.fresh l.places l.k l.m
