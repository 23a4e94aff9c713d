use Rattle.jsonpoints.specs.Laws.{Lining}
use Rattle.jsonpoints.proofs.put_lines.Given as goal

abbrev pub invariant-loop-p : goal.invariant-loop-p
invariant-loop-p l = Lining l.s l.n l.initial.out l.out l.at l.p l.next
