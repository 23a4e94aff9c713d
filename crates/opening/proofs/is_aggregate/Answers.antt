use Rattle.std.proofs.Common.{rules}
use Rattle.opening.proofs.Openings.{aggregate, no-aggregate}
use Rattle.opening.proofs.is_aggregate.Goals as goal

pub returns-in-Sum : goal.returns-in-Sum
returns-in-Sum c = search (aggregate, rules)

pub returns-in_default : goal.returns-in_default
returns-in_default c = search (no-aggregate, rules)
