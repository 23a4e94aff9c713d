use Rattle.std.proofs.Common.{rules}
use Rattle.jsonread.proofs.Spelling.{fitting-start, fitting-more}
use Rattle.jsonread.proofs.names.same_word.Goals as goal

pub loop-i-init : goal.loop-i-init
loop-i-init c = search (fitting-start, rules)

pub loop-i-preserved : goal.loop-i-preserved
loop-i-preserved c = search (fitting-more, rules)
