-- Entities rise by type and id
use Rattle.std.proofs.Common.{arith}
use Rattle.std.proofs.lemmas.Bool.Decides.{nat_tests}
use Rattle.meaning.specs.Tests.{◌and◌, ◌or◌}
use Rattle.pointcheck.proofs.entity_before.Goals as goal

pub returns-then-one-other : goal.returns-then-one-other
unfolding ◌and◌ ◌or◌
returns-then-one-other c = grind (arith, nat_tests)

pub returns-then-one-other-2 : goal.returns-then-one-other-2
unfolding ◌and◌ ◌or◌
returns-then-one-other-2 c = grind (arith, nat_tests)

pub returns-else-one-other-2 : goal.returns-else-one-other-2
unfolding ◌and◌ ◌or◌
returns-else-one-other-2 c = grind (arith, nat_tests)
