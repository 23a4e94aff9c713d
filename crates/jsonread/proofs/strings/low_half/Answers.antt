use Rattle.std.proofs.Common.{rules}
use Rattle.jsonread.proofs.Hex.{half-end, half-none, half-cut, half-other, half-unit}
use Rattle.jsonread.proofs.strings.low_half.Goals as goal

pub returns-then-line-at : goal.returns-then-line-at
returns-then-line-at c = search (half-end, rules)

pub returns-then-line-at-ne92 : goal.returns-then-line-at-ne92
returns-then-line-at-ne92 c = search (half-none, rules)

pub returns-then-line-at-2 : goal.returns-then-line-at-2
returns-then-line-at-2 c = search (half-cut, rules)

pub returns-then-line-at-ne117 : goal.returns-then-line-at-ne117
returns-then-line-at-ne117 c = search (half-other, rules)

pub returns : goal.returns
returns c = search (half-unit, rules)
