use Rattle.jsonpoints.specs.Laws.{Putting}
use Rattle.jsonpoints.specs.Lines.{word_text}
use Rattle.jsonpoints.proofs.put_words.Given as goal

abbrev pub invariant-loop-i : goal.invariant-loop-i
invariant-loop-i l = Putting (word_text l.s) l.first 1 l.items l.initial.out l.out l.at l.i l.next
