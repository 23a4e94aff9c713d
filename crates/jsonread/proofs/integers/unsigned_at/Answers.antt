use Rattle.std.proofs.Common.{rules}
use Rattle.jsonread.proofs.Counts.{sign-end, sign-minus, sign-plus, sign-none}
use Rattle.jsonread.proofs.integers.unsigned_at.Goals as goal

pub returns-then-line-at : goal.returns-then-line-at
returns-then-line-at c = search (sign-end, rules)

pub returns-then-line-at-eq45 : goal.returns-then-line-at-eq45
returns-then-line-at-eq45 c = search (sign-minus, rules)

pub returns-then-line-at-eq43 : goal.returns-then-line-at-eq43
returns-then-line-at-eq43 c = search (sign-plus, rules)

pub returns : goal.returns
returns c = search (sign-none, rules)
