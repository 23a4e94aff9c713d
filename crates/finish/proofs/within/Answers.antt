use Rattle.std.proofs.Common.{rules}
use Rattle.finish.proofs.Names.{within-both, within-low}
use Rattle.finish.proofs.within.Goals as goal

pub returns-then-low-n : goal.returns-then-low-n
returns-then-low-n c = search (within-both, rules)

pub returns-else-low-n : goal.returns-else-low-n
returns-else-low-n c = search (within-low, rules)
