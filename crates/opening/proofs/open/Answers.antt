use Rattle.std.proofs.Common.{rules}
use Rattle.laws.specs.Checked.{checked-bodies}
use Rattle.opening.proofs.Openings.{few-vars, two-vars, many-cells, no_such_point, no_such_node, bad_start, bad_limits, opened}
use Rattle.opening.proofs.open.Goals as goal

pub point_count-requires : goal.point_count-requires
point_count-requires c = search (checked-bodies, rules)

pub returns-then-point_count-point : goal.returns-then-point_count-point
returns-then-point_count-point c = search (no_such_point, rules)

pub node_at-asked-requires : goal.node_at-asked-requires
node_at-asked-requires c = search (checked-bodies, rules)

pub returns-then-not-is_wanted : goal.returns-then-not-is_wanted
returns-then-not-is_wanted c = search (no_such_node, rules)

pub returns-in_default : goal.returns-in_default
returns-in_default c = search (bad_start, rules)

pub beyond-requires : goal.beyond-requires
beyond-requires c = search (few-vars, rules)

pub returns-then-beyond : goal.returns-then-beyond
returns-then-beyond c = search (bad_limits, rules)

pub returns : goal.returns
returns c = search (opened, rules)

pub overflow_mul-cells : goal.overflow_mul-cells
overflow_mul-cells c = search (two-vars, rules)

pub overflow_mul-cells-2 : goal.overflow_mul-cells-2
overflow_mul-cells-2 c = search (many-cells, rules)
