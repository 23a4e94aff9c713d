use Rattle.std.proofs.Common.{rules}
use Rattle.matching.proofs.Leaves.{stands, leaf-at}
use Rattle.laws.specs.Checked.{checked-bodies}
use Rattle.matching.proofs.sides.resolve_leaf.Goals as goal

pub node_at-requires : goal.node_at-requires
node_at-requires c = search (checked-bodies, rules)

pub leaf_of-requires : goal.leaf_of-requires
leaf_of-requires c = search (stands, rules)

pub returns : goal.returns
returns c = search (leaf-at, rules)
