use Rattle.std.proofs.Common.{rules}
use Rattle.jsonread.proofs.Firsts.{due-end, text-there, text-not}
use Rattle.jsonread.proofs.begins.text_at.Goals as goal

pub returns-then-line-at : goal.returns-then-line-at
returns-then-line-at c = search (due-end, rules)

pub returns-then-c-eq34 : goal.returns-then-c-eq34
returns-then-c-eq34 c = search (text-there, rules)

pub returns : goal.returns
returns c = search (text-not, rules)
