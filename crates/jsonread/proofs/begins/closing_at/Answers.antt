use Rattle.std.proofs.Common.{rules}
use Rattle.jsonread.proofs.Firsts.{closing_end, closing_late, closing-due}
use Rattle.jsonread.proofs.begins.closing_at.Goals as goal

pub returns-then-line-at : goal.returns-then-line-at
returns-then-line-at c = search (closing_end, rules)

pub returns-then-line-at-eq44 : goal.returns-then-line-at-eq44
returns-then-line-at-eq44 c = search (closing_late, rules)

pub returns : goal.returns
returns c = search (closing-due, rules)
