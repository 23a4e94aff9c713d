use Rattle.finish.proofs.Whole.{Tables}
use Rattle.finish.proofs.put_tables.Given as goal

abbrev pub invariant-loop-i : goal.invariant-loop-i
invariant-loop-i l = Tables l.s l.marks l.initial.out l.out l.at l.i l.next
