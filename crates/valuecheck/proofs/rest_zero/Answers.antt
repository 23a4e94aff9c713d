-- The last two words are unused
use Rattle.std.proofs.Common.{arith}
use Rattle.std.proofs.lemmas.Bool.Decides.{nat_tests}
use Rattle.meaning.specs.Tests.{◌and◌}
use Rattle.valuecheck.proofs.rest_zero.Goals as goal

pub returns-then-value_word-eq0 : goal.returns-then-value_word-eq0
unfolding ◌and◌
returns-then-value_word-eq0 c = grind (arith, nat_tests)

pub returns-else-value_word-eq0 : goal.returns-else-value_word-eq0
unfolding ◌and◌
returns-else-value_word-eq0 c = grind (arith, nat_tests)
