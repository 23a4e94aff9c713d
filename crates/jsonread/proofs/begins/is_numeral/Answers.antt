use Rattle.std.proofs.Common.{arith}
use Rattle.std.proofs.lemmas.Bool.Decides.{nat_tests}
use Rattle.meaning.specs.Tests.{◌or◌, ◌and◌}
use Rattle.meaning.specs.Equal.{is_digit}
use Rattle.jsontext.specs.Values.{numeral}
use Rattle.jsonread.proofs.begins.is_numeral.Goals as goal

pub returns-then-c-eq45 : goal.returns-then-c-eq45
unfolding numeral is_digit ◌or◌ ◌and◌
returns-then-c-eq45 c = grind (arith, nat_tests)

pub returns-then-c-ge48 : goal.returns-then-c-ge48
unfolding numeral is_digit ◌or◌ ◌and◌
returns-then-c-ge48 c = grind (arith, nat_tests)

pub returns-else-c-ge48 : goal.returns-else-c-ge48
unfolding numeral is_digit ◌or◌ ◌and◌
returns-else-c-ge48 c = grind (arith, nat_tests)
