-- The rule of an aggregate as a term
use Rattle.std.proofs.Common.{arith}
use Rattle.std.proofs.lemmas.Bool.Decides.{nat_tests}
use Rattle.meaning.specs.Tests.{◌and◌}
use Rattle.nodecheck.proofs.aggregate_rule.Goals as goal

pub returns-then-is_child : goal.returns-then-is_child
unfolding ◌and◌
returns-then-is_child c = grind (arith, nat_tests)

pub returns-else-is_child : goal.returns-else-is_child
unfolding ◌and◌
returns-else-is_child c = grind (arith, nat_tests)
