use Rattle.std.proofs.Common.{rules}
use Rattle.jsonread.proofs.Counts.{count-start, count-end, count-stop, count-more, digit_low, digit_value}
use Rattle.jsonread.proofs.integers.digits_at.Goals as goal

pub loop-i-init : goal.loop-i-init
loop-i-init c = search (count-start, rules)

pub returns-then-not-is_digit : goal.returns-then-not-is_digit
returns-then-not-is_digit c = search (count-stop, rules)

pub more-value-requires : goal.more-value-requires
more-value-requires c = search (digit_value, rules)

pub loop-i-preserved : goal.loop-i-preserved
loop-i-preserved c = search (count-more, rules)

pub returns : goal.returns
returns c = search (count-end, rules)

pub overflow_sub-wide : goal.overflow_sub-wide
overflow_sub-wide c = search (digit_low, rules)
