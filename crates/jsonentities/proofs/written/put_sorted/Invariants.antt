use Rattle.jsonentities.proofs.Entering.{Entering}
use Rattle.jsonentities.proofs.written.put_sorted.Given as goal

abbrev pub invariant-loop-i : goal.invariant-loop-i
invariant-loop-i l = Entering l.line l.initial.names l.names l.count l.initial.out l.out l.initial.marks l.marks l.b l.initial.next l.next l.i
