use Rattle.std.proofs.Common.{rules}
use Rattle.jsonsizes.specs.Laws.Leaves.{true-size, false-size}
use Rattle.jsonsizes.proofs.truth_size.Goals as goal

pub returns-then-b-eq1 : goal.returns-then-b-eq1
returns-then-b-eq1 c = search (true-size, rules)

pub returns-else-b-eq1 : goal.returns-else-b-eq1
returns-else-b-eq1 c = search (false-size, rules)
