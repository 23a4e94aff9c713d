use Rattle.lookup.proofs.Dotted.{JoinsFrom}
use Rattle.meaning.specs.Case.{text}
use Rattle.lookup.proofs.paths.names_joined.Given as goal

abbrev pub invariant-loop-k : goal.invariant-loop-k
invariant-loop-k l = JoinsFrom l.s (text l.s l.n.0) l.first l.left l.at l.k
