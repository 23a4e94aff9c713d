-- The rules of nodes, one after the other
use Rattle.std.proofs.Common.{arith}
use Rattle.std.proofs.lemmas.Bool.Decides.{nat_tests}
use Rattle.meaning.specs.Tests.{◌and◌}
use Rattle.meaning.specs.Check.{node_rules}
use Rattle.nodecheck.proofs.check_nodes.Goals as goal

pub returns-then-check_each_node : goal.returns-then-check_each_node
unfolding node_rules ◌and◌
returns-then-check_each_node c = grind (arith, nat_tests)

pub returns-else-check_each_node : goal.returns-else-check_each_node
unfolding node_rules ◌and◌
returns-else-check_each_node c = grind (arith, nat_tests)
