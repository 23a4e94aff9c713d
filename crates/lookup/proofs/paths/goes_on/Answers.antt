use Rattle.std.proofs.Common.{rules}
use Rattle.lookup.proofs.Searching.{goes-short, goes-high, goes_so}
use Rattle.lookup.proofs.paths.goes_on.Goals.{then-end-t, else-end-t}
use Rattle.lookup.proofs.paths.goes_on.Goals as goal

pub returns-then-t-end-le46 : goal.returns-then-t-end-le46
returns-then-t-end-le46 c = search (goes_so, rules)

pub returns-else-t-end-le46 : goal.returns-else-t-end-le46
returns-else-t-end-le46 c = rw c.if-t-end-le46.false (elim c.if-end-t.branch [ then-end-t w ↦ search (goes-high, rules) | else-end-t w ↦ search (goes-short, rules) ])
