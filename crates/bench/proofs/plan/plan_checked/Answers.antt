use Rattle.std.proofs.Common.{rules}
use Rattle.bench.proofs.Plans.{no_last, wrong-last, right-last}
use Rattle.bench.proofs.plan.plan_checked.Goals as goal

pub returns-then-contents-eq0 : goal.returns-then-contents-eq0
returns-then-contents-eq0 c = search (no_last, rules)

pub returns-then-not-is_answerable : goal.returns-then-not-is_answerable
returns-then-not-is_answerable c = search (wrong-last, rules)

pub returns : goal.returns
returns c = search (right-last, rules)
