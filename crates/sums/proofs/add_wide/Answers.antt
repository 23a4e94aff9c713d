use Rattle.std.proofs.Common.{rules}
use Rattle.sums.proofs.Halves.{adds-up, adds-low, adds-high, adds-down}
use Rattle.sums.proofs.add_wide.Goals as goal

pub returns-then-lo-u : goal.returns-then-lo-u
returns-then-lo-u c = search (adds-up, rules)

pub returns-then-u-lt-LEAST : goal.returns-then-u-lt-LEAST
returns-then-u-lt-LEAST c = search (adds-low, rules)

pub returns-then-lo-u-2 : goal.returns-then-lo-u-2
returns-then-lo-u-2 c = search (adds-high, rules)

pub returns : goal.returns
returns c = search (adds-down, rules)
