use Rattle.std.proofs.Common.{arith}
use Rattle.std.proofs.lemmas.Bool.Decides.{nat_tests}
use Rattle.meaning.specs.Tests.{◌and◌}
use Rattle.jsontext.specs.Strings.{is_low}
use Rattle.jsonread.proofs.strings.is_low.Goals as goal

pub returns-then-u-ge56320 : goal.returns-then-u-ge56320
unfolding is_low ◌and◌
returns-then-u-ge56320 c = grind (arith, nat_tests)

pub returns-else-u-ge56320 : goal.returns-else-u-ge56320
unfolding is_low ◌and◌
returns-else-u-ge56320 c = grind (arith, nat_tests)
