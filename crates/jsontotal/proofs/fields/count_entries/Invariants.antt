use Rattle.jsonruns.proofs.Signs.{ahead}
use Rattle.jsontotal.proofs.Entries.{Entries}
use Rattle.jsontotal.proofs.fields.count_entries.Given as goal

abbrev pub invariant-loop-part : goal.invariant-loop-part
invariant-loop-part l = Entries l.line l.at l.initial.tally l.tally l.part

abbrev pub decreases-loop-part : goal.decreases-loop-part
decreases-loop-part l = ahead l.line l.part
