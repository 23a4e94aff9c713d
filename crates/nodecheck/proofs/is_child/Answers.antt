-- A child: a lower number, and a kind from low to high
use Rattle.std.proofs.Common.{arith}
use Rattle.std.proofs.lemmas.Bool.Decides.{nat_tests}
use Rattle.meaning.specs.Tests.{◌and◌}
use Rattle.nodecheck.proofs.is_child.Goals as goal

pub returns-then-low-kind : goal.returns-then-low-kind
unfolding ◌and◌
returns-then-low-kind c = grind (arith, nat_tests)

pub returns-else-low-kind : goal.returns-else-low-kind
unfolding ◌and◌
returns-else-low-kind c = grind (arith, nat_tests)
