-- The rule of a comparison and of arithmetic: two operands
use Rattle.std.proofs.Common.{arith}
use Rattle.std.proofs.lemmas.Bool.Decides.{nat_tests}
use Rattle.meaning.specs.Tests.{◌and◌}
use Rattle.nodecheck.proofs.operands_rule.Goals as goal

pub returns-then-is_operand-2 : goal.returns-then-is_operand-2
unfolding ◌and◌
returns-then-is_operand-2 c = grind (arith, nat_tests)

pub returns-else-is_operand-2 : goal.returns-else-is_operand-2
unfolding ◌and◌
returns-else-is_operand-2 c = grind (arith, nat_tests)
