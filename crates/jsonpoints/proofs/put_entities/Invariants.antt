use Rattle.jsonpoints.specs.Laws.{Putting}
use Rattle.jsonpoints.specs.Lines.{entity_text}
use Rattle.jsonpoints.proofs.put_entities.Given as goal

abbrev pub invariant-loop-i : goal.invariant-loop-i
invariant-loop-i l = Putting (entity_text l.s) l.first 3 l.items l.initial.out l.out l.at l.i l.next
