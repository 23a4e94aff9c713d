use Rattle.std.proofs.Common.{rules}
use Rattle.sums.proofs.Halves.{clamp-negative, clamp-under, clamp-positive, clamp-over}
use Rattle.sums.proofs.clamp_wide.Goals as goal

pub returns-then-w-ge-LEAST : goal.returns-then-w-ge-LEAST
returns-then-w-ge-LEAST c = search (clamp-negative, rules)

pub returns-else-w : goal.returns-else-w
returns-else-w c = search (clamp-under, rules)

pub returns-then-w-lt-LEAST : goal.returns-then-w-lt-LEAST
returns-then-w-lt-LEAST c = search (clamp-positive, rules)

pub returns-else-w-eq-MIDDLE : goal.returns-else-w-eq-MIDDLE
returns-else-w-eq-MIDDLE c = search (clamp-over, rules)
