use Rattle.std.proofs.Common.{rules}
use Rattle.jsonread.proofs.Counts.{frac-end, frac-none, frac-there}
use Rattle.jsonread.proofs.integers.frac_at.Goals as goal

pub returns-then-line-at : goal.returns-then-line-at
returns-then-line-at c = search (frac-end, rules)

pub returns-then-line-at-ne46 : goal.returns-then-line-at-ne46
returns-then-line-at-ne46 c = search (frac-none, rules)

pub returns : goal.returns
returns c = search (frac-there, rules)
