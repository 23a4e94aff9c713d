use Rattle.std.proofs.Common.{rules}
use Rattle.matching.proofs.Leaves.{side_bound, side_unbound, side_other}
use Rattle.laws.specs.Checked.{checked-bodies}
use Rattle.matching.proofs.sides.unbound_variable.Goals as goal

pub node_at-requires : goal.node_at-requires
node_at-requires c = search (checked-bodies, rules)

pub returns-then-is_bound : goal.returns-then-is_bound
returns-then-is_bound c = search (side_bound, rules)

pub returns-else-is_bound : goal.returns-else-is_bound
returns-else-is_bound c = search (side_unbound, rules)

pub returns-in_default : goal.returns-in_default
returns-in_default c = search (side_other, rules)
