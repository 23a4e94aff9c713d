use Rattle.std.proofs.Common.{rules}
use Rattle.jsonput.specs.Laws.Values.{brace-close, bracket-close}
use Rattle.jsonput.proofs.closing_byte.Goals as goal

pub returns-then-kind-eq7 : goal.returns-then-kind-eq7
returns-then-kind-eq7 c = search (brace-close, rules)

pub returns-else-kind-eq7 : goal.returns-else-kind-eq7
returns-else-kind-eq7 c = search (bracket-close, rules)
