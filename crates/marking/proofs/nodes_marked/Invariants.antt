use Rattle.laws.specs.Tests.{Passing}
use Rattle.encode.specs.Write.{node_marks}
use Rattle.marking.proofs.nodes_marked.Given as goal

abbrev pub invariant-loop-n : goal.invariant-loop-n
invariant-loop-n l = Passing (node_marks l.f l.marks) l.n-end l.n
