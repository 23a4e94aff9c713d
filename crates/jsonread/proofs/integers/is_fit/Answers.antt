use Rattle.std.proofs.Common.{rules}
use Rattle.jsonread.proofs.Counts.{fit-minus, fit-plus}
use Rattle.jsonread.proofs.integers.is_fit.Goals as goal

pub returns-then-minus : goal.returns-then-minus
returns-then-minus c = search (fit-minus, rules)

pub returns : goal.returns
returns c = search (fit-plus, rules)
