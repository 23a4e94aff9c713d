use Rattle.std.proofs.Common.{rules}
use Rattle.carried.proofs.Downs.{settle_is}
use Rattle.carried.proofs.scans.settle.Goals as goal

-- src/scans.rt:122:1
pub returns : goal.returns
returns c = search (settle_is, rules)
