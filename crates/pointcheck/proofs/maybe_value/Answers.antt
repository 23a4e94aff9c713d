-- A value, or nothing
use Rattle.std.proofs.Common.{arith}
use Rattle.std.proofs.lemmas.Bool.Decides.{nat_tests}
use Rattle.meaning.specs.Tests.{◌or◌}
use Rattle.pointcheck.proofs.maybe_value.Goals as goal

pub returns-then-v-eq4294967295 : goal.returns-then-v-eq4294967295
unfolding ◌or◌
returns-then-v-eq4294967295 c = grind (arith, nat_tests)

pub returns-else-v-eq4294967295 : goal.returns-else-v-eq4294967295
unfolding ◌or◌
returns-else-v-eq4294967295 c = grind (arith, nat_tests)
