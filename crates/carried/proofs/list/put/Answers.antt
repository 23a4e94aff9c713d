use Rattle.std.proofs.Common.{rules}
use Rattle.carried.proofs.Laid.{put-beyond}
use Rattle.carried.proofs.list.put.Goals as goal

pub returns-then-list-at : goal.returns-then-list-at
returns-then-list-at c = search (put-beyond, rules)
