-- Whether two runs of the lists hold the same words
use Rattle.lookup.proofs.Reach.{RunsFrom}
use Rattle.lookup.proofs.paths.same_runs.Given as goal

abbrev pub invariant-loop-i : goal.invariant-loop-i
invariant-loop-i l = RunsFrom l.s l.p l.q l.n l.i
