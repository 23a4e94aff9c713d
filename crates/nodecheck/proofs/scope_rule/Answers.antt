-- The rule of a Scope
use Rattle.std.proofs.Common.{arith}
use Rattle.std.proofs.lemmas.Bool.Decides.{nat_tests}
use Rattle.meaning.specs.Tests.{◌and◌}
use Rattle.nodecheck.proofs.scope_rule.Goals as goal

pub returns-then-path_run : goal.returns-then-path_run
unfolding ◌and◌
returns-then-path_run c = grind (arith, nat_tests)

pub returns-else-path_run : goal.returns-else-path_run
unfolding ◌and◌
returns-else-path_run c = grind (arith, nat_tests)
