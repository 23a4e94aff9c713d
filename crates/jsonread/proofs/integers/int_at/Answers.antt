use Rattle.std.proofs.Common.{rules}
use Rattle.jsonread.proofs.Counts.{int-end, int-zero, int-other, int-digits, digit_low, digit_value}
use Rattle.jsonread.proofs.integers.int_at.Goals as goal

pub returns-then-line-at : goal.returns-then-line-at
returns-then-line-at c = search (int-end, rules)

pub returns-then-c-eq48 : goal.returns-then-c-eq48
returns-then-c-eq48 c = search (int-zero, rules)

pub returns-then-not-is_digit : goal.returns-then-not-is_digit
returns-then-not-is_digit c = search (int-other, rules)

pub digits_at-requires : goal.digits_at-requires
digits_at-requires c = search (digit_value, rules)

pub returns : goal.returns
returns c = search (int-digits, rules)

pub overflow_sub-wide : goal.overflow_sub-wide
overflow_sub-wide c = search (digit_low, rules)
