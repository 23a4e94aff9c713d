use Rattle.finish.proofs.Parts.{Tabling}
use Rattle.finish.proofs.put_table.Given as goal

abbrev pub invariant-loop-i : goal.invariant-loop-i
invariant-loop-i l = Tabling l.s l.marks l.k l.initial.out l.out l.at l.many l.i
