-- A member names a string or nothing, and holds a value
use Rattle.std.proofs.Common.{arith}
use Rattle.std.proofs.lemmas.Bool.Decides.{nat_tests}
use Rattle.meaning.specs.Tests.{◌and◌, ◌or◌}
use Rattle.meaning.specs.Check.{member_rule}
use Rattle.valuecheck.proofs.member_rule.Goals as goal

pub returns-then-name-string_count : goal.returns-then-name-string_count
unfolding member_rule ◌and◌ ◌or◌
returns-then-name-string_count c = grind (arith, nat_tests)

pub returns-else-name-string_count : goal.returns-else-name-string_count
unfolding member_rule ◌and◌ ◌or◌
returns-else-name-string_count c = grind (arith, nat_tests)
