use Rattle.std.proofs.Common.{rules}
use Rattle.jsonput.specs.Laws.Values.{brace_open, bracket_open}
use Rattle.jsonput.proofs.opening_byte.Goals as goal

pub returns-then-kind-eq7 : goal.returns-then-kind-eq7
returns-then-kind-eq7 c = search (brace_open, rules)

pub returns-else-kind-eq7 : goal.returns-else-kind-eq7
returns-else-kind-eq7 c = search (bracket_open, rules)
