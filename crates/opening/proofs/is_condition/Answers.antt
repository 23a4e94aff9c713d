use Rattle.std.proofs.Common.{rules}
use Rattle.opening.proofs.Openings.{condition, no-condition}
use Rattle.opening.proofs.is_condition.Goals as goal

pub returns-in-And : goal.returns-in-And
returns-in-And c = search (condition, rules)

pub returns-in_default : goal.returns-in_default
returns-in_default c = search (no-condition, rules)
