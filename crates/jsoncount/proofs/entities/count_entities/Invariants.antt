use Rattle.jsonruns.proofs.Signs.{ahead}
use Rattle.jsoncount.proofs.Triples.{Entities}
use Rattle.jsoncount.proofs.entities.count_entities.Given as goal

abbrev pub invariant-loop-part : goal.invariant-loop-part
invariant-loop-part l = Entities l.line l.at l.initial.tally l.tally l.part

abbrev pub decreases-loop-part : goal.decreases-loop-part
decreases-loop-part l = ahead l.line l.part
