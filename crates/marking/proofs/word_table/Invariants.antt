use Rattle.marking.proofs.Tables.{WordsKnown}
use Rattle.marking.proofs.word_table.Given as goal

abbrev pub invariant-loop-i : goal.invariant-loop-i
invariant-loop-i l = WordsKnown l.marks l.names l.table l.items l.i
