-- The rule of a Since
use Rattle.std.proofs.Common.{arith}
use Rattle.std.proofs.lemmas.Bool.Decides.{nat_tests}
use Rattle.meaning.specs.Tests.{◌and◌}
use Rattle.nodecheck.proofs.since_rule.Goals as goal

pub returns-then-node_word-le3 : goal.returns-then-node_word-le3
unfolding ◌and◌
returns-then-node_word-le3 c = grind (arith, nat_tests)

pub returns-else-node_word-le3 : goal.returns-else-node_word-le3
unfolding ◌and◌
returns-else-node_word-le3 c = grind (arith, nat_tests)
