use Rattle.std.proofs.Common.{rules}
use Rattle.bench.proofs.Plans.{too_long, passes, contents, checked, unchecked}
use Rattle.bench.proofs.plan.plan_of.Goals as goal

pub returns-then-case-gt65536 : goal.returns-then-case-gt65536
returns-then-case-gt65536 c = search (too_long, rules)

pub plan_checked-requires : goal.plan_checked-requires
plan_checked-requires c = search (passes, contents, rules)

pub returns-in-Err : goal.returns-in-Err
returns-in-Err c = search (unchecked, rules)

pub returns-in-Ok : goal.returns-in-Ok
returns-in-Ok c = search (checked, rules)
