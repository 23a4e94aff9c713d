use Rattle.std.proofs.Common.{rules}
use Rattle.carried.proofs.Laid.{put-start, put_next, put_all}
use Rattle.carried.proofs.list.put_points.Goals as goal

-- src/list.rt:26:5
pub loop-k-init : goal.loop-k-init
loop-k-init c = search (put-start, rules)

-- src/list.rt:26:5
pub loop-k-preserved : goal.loop-k-preserved
loop-k-preserved c = search (put_next, rules)

-- src/list.rt:21:1
pub returns : goal.returns
returns c = search (put_all, rules)
