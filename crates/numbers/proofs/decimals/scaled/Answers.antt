-- The digits before and after the point, scaled and signed
use Rattle.std.proofs.Common.{rules}
use Rattle.laws.specs.Tests.{said}
use Rattle.numbers.proofs.Scaling.{no_whole, no_fraction, long_fraction, no-digits, no-digits-after, reads}
use Rattle.numbers.proofs.decimals.scaled.Goals.{then-is_empty-via-then-is_empty, then-is_empty-via-else-is_empty+then-is_empty-2, then-is_empty-via-else-is_empty+else-is_empty-2+then-frac-gt4, then-not-is_digits-via-then-not-is_digits, then-not-is_digits-via-else-not-is_digits+then-not-is_digits-2}
use Rattle.numbers.proofs.decimals.scaled.Goals as goal

pub returns-then-is_empty : goal.returns-then-is_empty
returns-then-is_empty c = elim c.then-is_empty.branch [
  | then-is_empty-via-then-is_empty w ↦ search (no_whole, rules)
  | then-is_empty-via-else-is_empty+then-is_empty-2 w ↦ search (no_fraction, rules)
  | then-is_empty-via-else-is_empty+else-is_empty-2+then-frac-gt4 w ↦ search (long_fraction, rules)
]

pub returns-then-not-is_digits : goal.returns-then-not-is_digits
returns-then-not-is_digits c = elim c.then-not-is_digits.branch [
  | then-not-is_digits-via-then-not-is_digits w ↦ search (no-digits, rules)
  | then-not-is_digits-via-else-not-is_digits+then-not-is_digits-2 w ↦ search (no-digits-after, rules)
]

pub returns : goal.returns
returns c = search (reads, rules)
