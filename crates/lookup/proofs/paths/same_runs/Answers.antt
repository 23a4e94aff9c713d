use Rattle.std.proofs.Common.{rules}
use Rattle.lookup.proofs.Reach.{runs-longer, runs-start, word-differs, word_same, words-end}
use Rattle.lookup.proofs.paths.same_runs.Goals as goal

pub returns-then-n-wide : goal.returns-then-n-wide
returns-then-n-wide c = search (runs-longer, rules)

pub loop-i-init : goal.loop-i-init
loop-i-init c = runs-start _ _ _ _

pub returns-then-list_at : goal.returns-then-list_at
returns-then-list_at c = search (word-differs, rules)

pub loop-i-preserved : goal.loop-i-preserved
loop-i-preserved c = search (word_same, rules)

pub returns : goal.returns
returns c = search (words-end, rules)
