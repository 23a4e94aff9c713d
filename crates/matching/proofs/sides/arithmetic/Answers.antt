use Rattle.std.proofs.Common.{rules}
use Rattle.matching.proofs.Comparing.{combined_ints, combined-none}
use Rattle.matching.proofs.sides.arithmetic.Goals as goal

pub returns-then-is_int-2 : goal.returns-then-is_int-2
returns-then-is_int-2 c = search (combined_ints, rules)

pub returns-else-is_int : goal.returns-else-is_int
returns-else-is_int c = search (combined-none, rules)
