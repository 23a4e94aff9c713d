-- The rule of a Tp and a Variable
use Rattle.std.proofs.Common.{arith}
use Rattle.std.proofs.lemmas.Bool.Decides.{nat_tests}
use Rattle.meaning.specs.Tests.{◌and◌}
use Rattle.nodecheck.proofs.variable_rule.Goals as goal

pub returns-then-is_variable : goal.returns-then-is_variable
unfolding ◌and◌
returns-then-is_variable c = grind (arith, nat_tests)

pub returns-else-is_variable : goal.returns-else-is_variable
unfolding ◌and◌
returns-else-is_variable c = grind (arith, nat_tests)
