use Rattle.std.proofs.Common.{rules}
use Rattle.laws.specs.Tests.{passing-none, passing-all}
use Rattle.marking.proofs.Tables.{words-all, words-no, words-on}
use Rattle.marking.proofs.word_run.Goals as goal

pub loop-i-init : goal.loop-i-init
loop-i-init c = search (passing-none, rules)

pub returns-then-items-i : goal.returns-then-items-i
returns-then-items-i c = search (words-all, rules)

pub returns-then-not-is_word : goal.returns-then-not-is_word
returns-then-not-is_word c = search (words-no, rules)

pub loop-i-preserved : goal.loop-i-preserved
loop-i-preserved c = search (words-on, rules)

pub returns : goal.returns
returns c = search (passing-all, rules)
