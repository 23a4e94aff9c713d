use Rattle.std.proofs.Common.{rules}
use Rattle.opening.proofs.Openings.{steps-beyond, room-beyond, cells-beyond}
use Rattle.opening.proofs.beyond.Goals as goal

pub returns-then-limits-gt1000000000 : goal.returns-then-limits-gt1000000000
returns-then-limits-gt1000000000 c = search (steps-beyond, rules)

pub returns-then-limits-gt16384 : goal.returns-then-limits-gt16384
returns-then-limits-gt16384 c = search (room-beyond, rules)

pub returns-else-limits-gt16384 : goal.returns-else-limits-gt16384
returns-else-limits-gt16384 c = search (cells-beyond, rules)
