use Rattle.std.proofs.Common.{rules}
use Rattle.capi.proofs.Seeing.{unchecked, passes, refused}
use Rattle.capi.proofs.galivodern_check.Goals as goal

pub returns-then-contents-lt5 : goal.returns-then-contents-lt5
returns-then-contents-lt5 c = search (unchecked, rules)

pub returns-in-Ok : goal.returns-in-Ok
returns-in-Ok c = search (passes, rules)

pub returns-in-Err : goal.returns-in-Err
returns-in-Err c = search (refused, rules)
