use Rattle.std.proofs.Common.{arith}
use Rattle.std.proofs.lemmas.Bool.Decides.{nat_tests}
use Rattle.meaning.specs.Tests.{◌and◌}
use Rattle.jsontext.specs.Strings.{is_high}
use Rattle.jsonread.proofs.strings.is_high.Goals as goal

pub returns-then-u-ge55296 : goal.returns-then-u-ge55296
unfolding is_high ◌and◌
returns-then-u-ge55296 c = grind (arith, nat_tests)

pub returns-else-u-ge55296 : goal.returns-else-u-ge55296
unfolding is_high ◌and◌
returns-else-u-ge55296 c = grind (arith, nat_tests)
