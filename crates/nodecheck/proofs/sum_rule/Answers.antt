-- The rule of a Sum
use Rattle.std.proofs.Common.{arith}
use Rattle.std.proofs.lemmas.Bool.Decides.{nat_tests}
use Rattle.meaning.specs.Tests.{◌and◌}
use Rattle.meaning.specs.Check.{rule_of}
use Rattle.nodecheck.proofs.sum_rule.Goals as goal

pub returns-then-is_condition : goal.returns-then-is_condition
unfolding rule_of ◌and◌
returns-then-is_condition c = grind (arith, nat_tests)

pub returns-else-is_condition : goal.returns-else-is_condition
unfolding rule_of ◌and◌
returns-else-is_condition c = grind (arith, nat_tests)
