use Rattle.jsonroom.proofs.Records.{Wording}
use Rattle.jsonroom.proofs.put_words.Given as goal

abbrev pub invariant-loop-i : goal.invariant-loop-i
invariant-loop-i l = Wording l.initial.out l.out l.at l.words l.i
