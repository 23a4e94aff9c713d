use Rattle.joining.proofs.Guessing.{Sifting}
use Rattle.joining.proofs.keep_others.Given as goal

abbrev pub invariant-loop-k : goal.invariant-loop-k
invariant-loop-k l = Sifting l.s l.initial.kept l.kept l.all l.m l.k
