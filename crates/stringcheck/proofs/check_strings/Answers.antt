-- The rules of strings, one after the other
use Rattle.std.proofs.Common.{arith}
use Rattle.std.proofs.lemmas.Bool.Decides.{nat_tests}
use Rattle.meaning.specs.Tests.{◌and◌}
use Rattle.meaning.specs.Check.{string_rules}
use Rattle.stringcheck.proofs.check_strings.Goals as goal

pub returns-then-check_utf8 : goal.returns-then-check_utf8
unfolding string_rules ◌and◌
returns-then-check_utf8 c = grind (arith, nat_tests)

pub returns-else-check_utf8 : goal.returns-else-check_utf8
unfolding string_rules ◌and◌
returns-else-check_utf8 c = grind (arith, nat_tests)
