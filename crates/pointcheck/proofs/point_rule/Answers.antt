-- The rule of a point, part by part
use Rattle.std.proofs.Common.{arith}
use Rattle.std.proofs.lemmas.Bool.Decides.{nat_tests}
use Rattle.meaning.specs.Tests.{◌and◌}
use Rattle.meaning.specs.Check.{point_rule}
use Rattle.pointcheck.proofs.point_rule.Goals as goal

pub returns-then-maybe_value-2 : goal.returns-then-maybe_value-2
unfolding point_rule ◌and◌
returns-then-maybe_value-2 c = grind (arith, nat_tests)

pub returns-else-maybe_value-2 : goal.returns-else-maybe_value-2
unfolding point_rule ◌and◌
returns-else-maybe_value-2 c = grind (arith, nat_tests)
