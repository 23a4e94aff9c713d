use Rattle.std.proofs.Common.{rules}
use Rattle.jsonread.proofs.Hex.{hex_low, hex_decimal, hex_between, hex_upper, hex_after, hex_lower, hex_beyond}
use Rattle.jsonread.proofs.strings.hex_digit.Goals as goal

pub returns-then-c-lt48 : goal.returns-then-c-lt48
returns-then-c-lt48 c = search (hex_low, rules)

pub returns-then-c-le57 : goal.returns-then-c-le57
returns-then-c-le57 c = search (hex_decimal, rules)

pub returns-then-c-lt65 : goal.returns-then-c-lt65
returns-then-c-lt65 c = search (hex_between, rules)

pub returns-then-c-le70 : goal.returns-then-c-le70
returns-then-c-le70 c = search (hex_upper, rules)

pub returns-then-c-lt97 : goal.returns-then-c-lt97
returns-then-c-lt97 c = search (hex_after, rules)

pub returns-then-c-le102 : goal.returns-then-c-le102
returns-then-c-le102 c = search (hex_lower, rules)

pub returns : goal.returns
returns c = search (hex_beyond, rules)
