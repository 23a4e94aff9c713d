-- A decimal, with its sign
use Rattle.std.proofs.Common.{rules}
use Rattle.numbers.proofs.Scaling.{decimal-minus, decimal-plus}
use Rattle.numbers.proofs.decimals.cedar_decimal_value.Goals as goal

pub returns-then-starts_with : goal.returns-then-starts_with
returns-then-starts_with c = search (decimal-minus, rules)

pub returns-else-starts_with : goal.returns-else-starts_with
returns-else-starts_with c = search (decimal-plus, rules)
