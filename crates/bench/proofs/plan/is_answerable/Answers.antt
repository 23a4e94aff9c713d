use Rattle.std.proofs.Common.{rules}
use Rattle.laws.specs.Checked.{checked-bodies}
use Rattle.bench.proofs.Last.{condition-last, aggregate-last}
use Rattle.bench.proofs.plan.is_answerable.Goals as goal

pub node_word-kind-requires : goal.node_word-kind-requires
node_word-kind-requires c = search (checked-bodies, rules)

pub returns-then-is_within : goal.returns-then-is_within
returns-then-is_within c = search (condition-last, rules)

pub returns-else-is_within : goal.returns-else-is_within
returns-else-is_within c = search (aggregate-last, rules)
