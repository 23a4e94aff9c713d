use Rattle.std.proofs.Common.{rules}
use Rattle.lookup.proofs.Dotted.{stands-short, stands-start, stands-no, stands-yes, stands-end}
use Rattle.lookup.proofs.paths.stands_at.Goals as goal

pub returns-then-t-at : goal.returns-then-t-at
returns-then-t-at c = search (stands-short, rules)

pub loop-i-init : goal.loop-i-init
loop-i-init c = search (stands-start, rules)

pub returns-then-t-at-2 : goal.returns-then-t-at-2
returns-then-t-at-2 c = search (stands-no, rules)

pub loop-i-preserved : goal.loop-i-preserved
loop-i-preserved c = search (stands-yes, rules)

pub returns : goal.returns
returns c = search (stands-end, rules)
