use Rattle.std.proofs.Common.{rules}
use Rattle.jsonput.specs.Laws.Strings.{hex_low, hex_high}
use Rattle.jsonput.proofs.hex_byte.Goals as goal

pub returns-then-d-lt10 : goal.returns-then-d-lt10
returns-then-d-lt10 c = search (hex_low, rules)

pub returns-else-d-lt10 : goal.returns-else-d-lt10
returns-else-d-lt10 c = search (hex_high, rules)
