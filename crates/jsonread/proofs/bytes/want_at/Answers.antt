use Rattle.std.proofs.Common.{rules}
use Rattle.jsonread.proofs.Due.{want-end, want-there, want-other}
use Rattle.jsonread.proofs.bytes.want_at.Goals as goal

pub returns-then-line-at : goal.returns-then-line-at
returns-then-line-at c = search (want-end, rules)

pub returns-then-line-at-2 : goal.returns-then-line-at-2
returns-then-line-at-2 c = search (want-there, rules)

pub returns : goal.returns
returns c = search (want-other, rules)
