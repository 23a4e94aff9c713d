use Rattle.finish.proofs.Parts.{Counting}
use Rattle.finish.proofs.text_bytes.Given as goal

abbrev pub invariant-loop-i : goal.invariant-loop-i
invariant-loop-i l = Counting l.s l.n l.i l.total
