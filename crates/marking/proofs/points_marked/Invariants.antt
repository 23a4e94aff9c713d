use Rattle.laws.specs.Tests.{Passing}
use Rattle.encode.specs.Write.{point_marks}
use Rattle.marking.proofs.points_marked.Given as goal

abbrev pub invariant-loop-p : goal.invariant-loop-p
invariant-loop-p l = Passing (point_marks l.f l.marks) l.p-end l.p
