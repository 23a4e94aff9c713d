use Rattle.std.proofs.Common.{rules}
use Rattle.jsonread.proofs.Counts.{exp-end, exp-lower, exp-upper, exp-none}
use Rattle.jsonread.proofs.integers.exp_at.Goals as goal

pub returns-then-line-at : goal.returns-then-line-at
returns-then-line-at c = search (exp-end, rules)

pub returns-then-line-at-eq101 : goal.returns-then-line-at-eq101
returns-then-line-at-eq101 c = search (exp-lower, rules)

pub returns-then-line-at-eq69 : goal.returns-then-line-at-eq69
returns-then-line-at-eq69 c = search (exp-upper, rules)

pub returns : goal.returns
returns c = search (exp-none, rules)
