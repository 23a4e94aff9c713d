use Rattle.finish.proofs.Parts.{Placing}
use Rattle.encode.specs.Unsorted.{texts}
use Rattle.finish.proofs.put_strings.Given as goal

abbrev pub invariant-loop-i : goal.invariant-loop-i
invariant-loop-i l = Placing l.initial.out l.out l.at 0 (texts l.s) l.i l.start
