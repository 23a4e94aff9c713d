use Rattle.jsonread.proofs.Firsts.{Spelling}
use Rattle.jsonread.proofs.begins.word_at.Given as goal

abbrev pub invariant-loop-b : goal.invariant-loop-b
invariant-loop-b l = Spelling l.line l.at l.word l.b-index l.k
