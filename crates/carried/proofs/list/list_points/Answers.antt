use Rattle.std.proofs.Common.{rules}
use Rattle.carried.proofs.Laid.{yes-short, yes-listed}
use Rattle.carried.proofs.list.list_points.Goals as goal

pub returns-then-list-n : goal.returns-then-list-n
returns-then-list-n c = rw c.short.ensures (search (yes-short, rules))

pub returns : goal.returns
returns c = search (yes-listed, rules)
