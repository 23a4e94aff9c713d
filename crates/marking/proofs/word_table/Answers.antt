use Rattle.std.proofs.Common.{rules}
use Rattle.marking.proofs.Tables.{words-none, words_more}
use Rattle.marking.proofs.word_table.Goals as goal

pub loop-i-init : goal.loop-i-init
loop-i-init c = search (words-none, rules)

pub loop-i-preserved : goal.loop-i-preserved
loop-i-preserved c = search (words_more, rules)
