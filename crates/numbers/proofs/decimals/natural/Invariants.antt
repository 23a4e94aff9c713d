use Rattle.numbers.proofs.Reading.{NaturalFrom}
use Rattle.numbers.proofs.decimals.natural.Given as goal

abbrev pub invariant-loop-b : goal.invariant-loop-b
invariant-loop-b l = NaturalFrom l.s l.n l.b-index
