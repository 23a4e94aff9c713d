use Rattle.std.proofs.Common.{rules}
use Rattle.rows.proofs.Out.{plain-none, plain-some}
use Rattle.rows.proofs.output.plain.Goals as goal

pub returns-then-is_bound : goal.returns-then-is_bound
returns-then-is_bound c = search (plain-some, rules)

pub returns-else-is_bound : goal.returns-else-is_bound
returns-else-is_bound c = search (plain-none, rules)
