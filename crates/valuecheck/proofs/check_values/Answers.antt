-- The rules of values, one after the other
use Rattle.std.proofs.Common.{arith}
use Rattle.std.proofs.lemmas.Bool.Decides.{nat_tests}
use Rattle.meaning.specs.Tests.{◌and◌}
use Rattle.meaning.specs.Check.{value_rules}
use Rattle.valuecheck.proofs.check_values.Goals as goal

pub returns-then-check_each_value : goal.returns-then-check_each_value
unfolding value_rules ◌and◌
returns-then-check_each_value c = grind (arith, nat_tests)

pub returns-else-check_each_value : goal.returns-else-check_each_value
unfolding value_rules ◌and◌
returns-else-check_each_value c = grind (arith, nat_tests)
