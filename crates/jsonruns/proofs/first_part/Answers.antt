use Rattle.std.proofs.Common.{rules}
use Rattle.jsonruns.proofs.Signs.{sign_read, begin_closed, begin_next}
use Rattle.jsonruns.proofs.first_part.Goals as goal

pub bounds-line-i : goal.bounds-line-i
bounds-line-i c = search (sign_read, rules)

pub returns-then-line-i : goal.returns-then-line-i
returns-then-line-i c = search (begin_closed, rules)

pub returns-else-line-i : goal.returns-else-line-i
returns-else-line-i c = search (begin_next, rules)
