use Rattle.jsonruns.proofs.Signs.{ahead}
use Rattle.jsonpieces.proofs.Names.{Spacing}
use Rattle.jsonevents.proofs.names.put_spaces.Given as goal

abbrev pub invariant-loop-part : goal.invariant-loop-part
invariant-loop-part l = Spacing l.line l.at l.initial.out l.out l.initial.marks l.marks l.b l.initial.next l.next l.part

abbrev pub decreases-loop-part : goal.decreases-loop-part
decreases-loop-part l = ahead l.line l.part
