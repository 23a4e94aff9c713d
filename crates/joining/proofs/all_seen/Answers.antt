use Rattle.joining.proofs.Guessing.{seeing_none, seeing_more, seen-not, seen_all}
use Rattle.std.proofs.Common.{rules}
use Rattle.joining.proofs.all_seen.Goals as goal

pub loop-i-init : goal.loop-i-init
loop-i-init c = search (seeing_none, rules)

pub returns-then-not-seen-i : goal.returns-then-not-seen-i
returns-then-not-seen-i c = search (seen-not, rules)

pub loop-i-preserved : goal.loop-i-preserved
loop-i-preserved c = search (seeing_more, rules)

pub returns : goal.returns
returns c = search (seen_all, rules)
