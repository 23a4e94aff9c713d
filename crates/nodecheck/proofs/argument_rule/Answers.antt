-- The rule of an argument: its own, and a lower term
use Rattle.std.proofs.Common.{arith}
use Rattle.std.proofs.lemmas.Bool.Decides.{nat_tests}
use Rattle.meaning.specs.Tests.{◌and◌}
use Rattle.nodecheck.specs.Laws.{argument_is}
use Rattle.nodecheck.proofs.argument_rule.Goals as goal

pub returns-then-argument_own : goal.returns-then-argument_own
unfolding ◌and◌
returns-then-argument_own c = grind (arith, nat_tests, argument_is)

pub returns-else-argument_own : goal.returns-else-argument_own
unfolding ◌and◌
returns-else-argument_own c = grind (arith, nat_tests, argument_is)
