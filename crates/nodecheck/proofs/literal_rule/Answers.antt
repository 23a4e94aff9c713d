-- The rule of a Literal: a value that a table marks
use Rattle.std.proofs.Common.{arith}
use Rattle.std.proofs.lemmas.Bool.Decides.{nat_tests}
use Rattle.meaning.specs.Tests.{◌and◌}
use Rattle.meaning.specs.Check.{rule_of}
use Rattle.nodecheck.proofs.literal_rule.Goals as goal

pub returns-then-is_literal : goal.returns-then-is_literal
unfolding rule_of ◌and◌
returns-then-is_literal c = grind (arith, nat_tests)

pub returns-else-is_literal : goal.returns-else-is_literal
unfolding rule_of ◌and◌
returns-else-is_literal c = grind (arith, nat_tests)
