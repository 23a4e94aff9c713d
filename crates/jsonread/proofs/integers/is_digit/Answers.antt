use Rattle.std.proofs.Common.{arith}
use Rattle.std.proofs.lemmas.Bool.Decides.{nat_tests}
use Rattle.meaning.specs.Tests.{◌and◌}
use Rattle.meaning.specs.Equal.{is_digit}
use Rattle.jsonread.proofs.integers.is_digit.Goals as goal

pub returns-then-c-ge48 : goal.returns-then-c-ge48
unfolding is_digit ◌and◌
returns-then-c-ge48 c = grind (arith, nat_tests)

pub returns-else-c-ge48 : goal.returns-else-c-ge48
unfolding is_digit ◌and◌
returns-else-c-ge48 c = grind (arith, nat_tests)
