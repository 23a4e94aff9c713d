-- The mosts, one after the other
use Rattle.std.proofs.Common.{arith}
use Rattle.std.proofs.lemmas.Bool.Decides.{nat_tests}
use Rattle.meaning.specs.Tests.{◌and◌}
use Rattle.meaning.specs.Check.{mosts}
use Rattle.stringcheck.proofs.check_mosts.Goals as goal

pub returns-then-node_count-le1024 : goal.returns-then-node_count-le1024
unfolding mosts ◌and◌
returns-then-node_count-le1024 c = grind (arith, nat_tests)

pub returns-else-node_count-le1024 : goal.returns-else-node_count-le1024
unfolding mosts ◌and◌
returns-else-node_count-le1024 c = grind (arith, nat_tests)
