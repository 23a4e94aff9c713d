-- What is kept of each block of arguments, as a table filled from the front
use Rattle.nodecheck.specs.Terms.{argument_top, argument_start}
use Rattle.stringcheck.specs.Tables.{Filling}
use Rattle.nodecheck.proofs.argument_tops.Given as goal

abbrev pub invariant-loop-k : goal.invariant-loop-k
invariant-loop-k l = Filling 0 (λ k. argument_top l.s (argument_start k)) 8192 l.k-end l.tops l.k
