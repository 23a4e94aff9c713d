-- A value is an Object
use Rattle.std.proofs.Common.{arith}
use Rattle.std.proofs.lemmas.Bool.Decides.{nat_tests}
use Rattle.meaning.specs.Tests.{◌and◌}
use Rattle.pointcheck.proofs.is_object.Goals as goal

pub returns-then-v-value_count : goal.returns-then-v-value_count
unfolding ◌and◌
returns-then-v-value_count c = grind (arith, nat_tests)

pub returns-else-v-value_count : goal.returns-else-v-value_count
unfolding ◌and◌
returns-else-v-value_count c = grind (arith, nat_tests)
