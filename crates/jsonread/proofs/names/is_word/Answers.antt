use Rattle.std.proofs.Common.{rules}
use Rattle.jsonread.proofs.Spelling.{fitting-short, fitting-differs, fitting-end}
use Rattle.jsonread.proofs.names.is_word.Goals as goal

pub returns-then-word-i : goal.returns-then-word-i
returns-then-word-i c = search (fitting-end, rules)

pub returns-then-c-eq34 : goal.returns-then-c-eq34
returns-then-c-eq34 c = search (fitting-short, rules)

pub returns-else-c-word : goal.returns-else-c-word
returns-else-c-word c = search (fitting-differs, rules)
