use Rattle.std.proofs.Common.{rules}
use Rattle.meaning.specs.Tests.{◌and◌}
use Rattle.bench.proofs.plan.is_within.Goals as goal

pub returns-then-least-kind : goal.returns-then-least-kind
unfolding ◌and◌
returns-then-least-kind c = search rules

pub returns-else-least-kind : goal.returns-else-least-kind
unfolding ◌and◌
returns-else-least-kind c = search rules
