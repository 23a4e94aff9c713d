use Rattle.std.proofs.Common.{rules}
use Rattle.jsonread.proofs.Counts.{some_end, some-other, some-digits, digit_low, digit_value}
use Rattle.jsonread.proofs.integers.some_digits_at.Goals as goal

pub returns-then-line-at : goal.returns-then-line-at
returns-then-line-at c = search (some_end, rules)

pub returns-then-not-is_digit : goal.returns-then-not-is_digit
returns-then-not-is_digit c = search (some-other, rules)

pub digits_at-n-requires : goal.digits_at-n-requires
digits_at-n-requires c = search (digit_value, rules)

pub returns : goal.returns
returns c = search (some-digits, rules)

pub overflow_sub-wide : goal.overflow_sub-wide
overflow_sub-wide c = search (digit_low, rules)
