use Rattle.laws.specs.Tests.{Passing}
use Rattle.encode.specs.Unsorted.{in_text}
use Rattle.marking.proofs.strings_in_text.Given as goal

abbrev pub invariant-loop-k : goal.invariant-loop-k
invariant-loop-k l = Passing (in_text l.s) l.k-end l.k
