use Rattle.jsonread.specs.Spelling.{Matching}
use Rattle.jsonread.proofs.names.is_word_from.Given as goal

abbrev pub invariant-loop-i : goal.invariant-loop-i
invariant-loop-i l = Matching l.line l.at l.word l.x l.i
