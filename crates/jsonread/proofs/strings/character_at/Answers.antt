use Rattle.std.proofs.Common.{rules}
use Rattle.jsonread.proofs.Hex.{lone_low, whole, both_halves, lone_high, high-from, high-to, low-from, low-to}
use Rattle.jsonread.proofs.strings.character_at.Goals as goal

pub returns-then-is_low : goal.returns-then-is_low
returns-then-is_low c = search (lone_low, rules)

pub returns-then-not-is_high : goal.returns-then-not-is_high
returns-then-not-is_high c = search (whole, rules)

pub joined-requires : goal.joined-requires
joined-requires c = search (high-from, high-to, low-from, low-to, rules)

pub returns-in_default : goal.returns-in_default
returns-in_default c = rw c.new-in_default.ensures (search (lone_high, rules))

pub returns : goal.returns
returns c = search (both_halves, c.in-Ok.is, rules)
