use Rattle.std.proofs.Common.{rules}
use Rattle.carried.proofs.Laid.{two-put}
use Rattle.carried.proofs.list.put_two.Goals as goal

-- src/list.rt:21:1
pub returns : goal.returns
returns c = search (two-put, rules)
