use Rattle.finish.proofs.Parts.{Filling}
use Rattle.encode.specs.Unsorted.{texts}
use Rattle.finish.proofs.put_text.Given as goal

abbrev pub invariant-loop-i : goal.invariant-loop-i
invariant-loop-i l = Filling l.initial.out l.out l.at (texts l.s) l.i l.next
