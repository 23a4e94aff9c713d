use Rattle.std.proofs.Common.{rules}
use Rattle.matching.proofs.Comparing.{ordered-both, not_left, not_right}
use Rattle.matching.proofs.sides.ordered_ints.Goals as goal

pub returns-then-is_int-2 : goal.returns-then-is_int-2
returns-then-is_int-2 c = search (ordered-both, rules)

pub returns-else-is_int-2 : goal.returns-else-is_int-2
returns-else-is_int-2 c = search (not_right, rules)

pub returns-else-is_int : goal.returns-else-is_int
returns-else-is_int c = search (not_left, rules)
