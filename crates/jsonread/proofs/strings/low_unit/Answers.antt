use Rattle.std.proofs.Common.{rules}
use Rattle.jsonread.proofs.Places.{passed}
use Rattle.jsonread.proofs.Hex.{unit-missing, unit-low, unit-other}
use Rattle.jsonread.proofs.strings.low_unit.Goals as goal

pub returns-in_err-low : goal.returns-in_err-low
returns-in_err-low c = rw (passed c.from_residual.ensures.1) (search (unit-missing, c.in_err-low.was, rules))

pub returns-then-is_low : goal.returns-then-is_low
returns-then-is_low c = search (unit-low, c.in_ok-low.was, rules)

pub returns-else-is_low : goal.returns-else-is_low
returns-else-is_low c = search (unit-other, c.in_ok-low.was, rules)
