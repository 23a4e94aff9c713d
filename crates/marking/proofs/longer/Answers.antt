use Rattle.std.proofs.Common.{rules}
use Rattle.marking.proofs.Tables.{longer-yes, longer-no}
use Rattle.marking.proofs.longer.Goals as goal

pub returns-then-passes : goal.returns-then-passes
returns-then-passes c = search (longer-yes, rules)

pub returns-else-passes : goal.returns-else-passes
returns-else-passes c = search (longer-no, rules)
