-- The rule of a Predicate
use Rattle.std.proofs.Common.{arith}
use Rattle.std.proofs.lemmas.Bool.Decides.{nat_tests}
use Rattle.meaning.specs.Tests.{◌and◌}
use Rattle.meaning.specs.Check.{rule_of}
use Rattle.nodecheck.proofs.predicate_rule.Goals as goal

pub returns-then-argument_run : goal.returns-then-argument_run
unfolding rule_of ◌and◌
returns-then-argument_run c = grind (arith, nat_tests)

pub returns-else-argument_run : goal.returns-else-argument_run
unfolding rule_of ◌and◌
returns-else-argument_run c = grind (arith, nat_tests)
