use Rattle.std.proofs.Common.{rules}
use Rattle.opening.proofs.Openings.{answerable-first, answerable-second}
use Rattle.opening.proofs.is_answerable.Goals as goal

pub returns-then-is_condition : goal.returns-then-is_condition
returns-then-is_condition c = search (answerable-first, rules)

pub returns-else-is_condition : goal.returns-else-is_condition
returns-else-is_condition c = search (answerable-second, rules)
