use Rattle.jsonlines.proofs.Lines.{Ending}
use Rattle.jsonlines.proofs.events.line_end.Given as goal

abbrev pub invariant-loop-i : goal.invariant-loop-i
invariant-loop-i l = Ending l.text l.at l.i
