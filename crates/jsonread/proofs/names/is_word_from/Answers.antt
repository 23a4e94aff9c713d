use Rattle.std.proofs.Common.{rules}
use Rattle.jsonread.proofs.Spelling.{match-short, match-differs, match-more, match-end, fitting-is}
use Rattle.jsonread.proofs.names.is_word_from.Goals as goal

pub loop-i-init : goal.loop-i-init
loop-i-init c = search (fitting-is, rules)

pub returns-then-b-word : goal.returns-then-b-word
returns-then-b-word c = search (match-differs, rules)

pub loop-i-preserved : goal.loop-i-preserved
loop-i-preserved c = search (match-more, rules)

pub returns-in_default : goal.returns-in_default
returns-in_default c = search (match-short, rules)

pub returns : goal.returns
returns c = search (match-end, rules)
