use Rattle.std.proofs.Common.{rules}
use Rattle.matching.proofs.Comparing.{bound-yes, not_left, not_right}
use Rattle.matching.proofs.sides.compare.Goals as goal

pub compare_bound-requires : goal.compare_bound-requires
compare_bound-requires c = search (bound-yes, rules)

pub returns-else-is_bound-2 : goal.returns-else-is_bound-2
returns-else-is_bound-2 c = search (not_right, rules)

pub returns-else-is_bound : goal.returns-else-is_bound
returns-else-is_bound c = search (not_left, rules)
