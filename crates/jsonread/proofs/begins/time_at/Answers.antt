use Rattle.std.proofs.Common.{rules}
use Rattle.jsonread.proofs.Firsts.{due-end, due-yes, due-no}
use Rattle.jsonread.proofs.begins.time_at.Goals as goal

pub returns-then-line-at : goal.returns-then-line-at
returns-then-line-at c = search (due-end, rules)

pub returns-then-is_numeral : goal.returns-then-is_numeral
returns-then-is_numeral c = search (due-yes, rules)

pub returns : goal.returns
returns c = search (due-no, rules)
