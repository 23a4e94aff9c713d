use Rattle.std.proofs.Common.{rules}
use Rattle.jsonread.proofs.Counts.{number-end, number-minus, number-plain}
use Rattle.jsonread.proofs.integers.number_at.Goals as goal

pub returns-then-line-at : goal.returns-then-line-at
returns-then-line-at c = search (number-end, rules)

pub returns-then-line-at-eq45 : goal.returns-then-line-at-eq45
returns-then-line-at-eq45 c = search (number-minus, rules)

pub returns : goal.returns
returns c = search (number-plain, rules)
