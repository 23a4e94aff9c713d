-- An argument's own rule: its path and its kind of term
use Rattle.std.proofs.Common.{arith}
use Rattle.std.proofs.lemmas.Bool.Decides.{nat_tests}
use Rattle.meaning.specs.Tests.{◌and◌}
use Rattle.nodecheck.specs.Terms.{argument_own}
use Rattle.nodecheck.proofs.argument_own.Goals as goal

pub returns-then-kind-ge20 : goal.returns-then-kind-ge20
unfolding argument_own ◌and◌
returns-then-kind-ge20 c = grind (arith, nat_tests)

pub returns-else-kind-ge20 : goal.returns-else-kind-ge20
unfolding argument_own ◌and◌
returns-else-kind-ge20 c = grind (arith, nat_tests)
