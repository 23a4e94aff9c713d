-- The rule of a Formerly and a Previous
use Rattle.std.proofs.Common.{arith}
use Rattle.std.proofs.lemmas.Bool.Decides.{nat_tests}
use Rattle.meaning.specs.Tests.{◌and◌}
use Rattle.nodecheck.proofs.window_rule.Goals as goal

pub returns-then-is_condition : goal.returns-then-is_condition
unfolding ◌and◌
returns-then-is_condition c = grind (arith, nat_tests)

pub returns-else-is_condition : goal.returns-else-is_condition
unfolding ◌and◌
returns-else-is_condition c = grind (arith, nat_tests)
