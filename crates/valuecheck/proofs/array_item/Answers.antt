-- An item of an array: no name, and a lower value
use Rattle.std.proofs.Common.{arith}
use Rattle.std.proofs.lemmas.Bool.Decides.{nat_tests}
use Rattle.meaning.specs.Tests.{◌and◌}
use Rattle.meaning.specs.Check.{array_item}
use Rattle.valuecheck.proofs.array_item.Goals as goal

pub returns-then-member_word : goal.returns-then-member_word
unfolding array_item ◌and◌
returns-then-member_word c = grind (arith, nat_tests)

pub returns-else-member_word : goal.returns-else-member_word
unfolding array_item ◌and◌
returns-else-member_word c = grind (arith, nat_tests)
