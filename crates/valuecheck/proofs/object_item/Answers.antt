-- An item of an object: a name after the one before it, and a lower value
use Rattle.std.proofs.Common.{arith}
use Rattle.std.proofs.lemmas.Bool.Decides.{nat_tests}
use Rattle.meaning.specs.Tests.{◌and◌}
use Rattle.valuecheck.specs.Laws.{object-is}
use Rattle.valuecheck.proofs.object_item.Goals as goal

pub returns-then-name_follows : goal.returns-then-name_follows
unfolding ◌and◌
returns-then-name_follows c = grind (arith, nat_tests, object-is)

pub returns-else-name_follows : goal.returns-else-name_follows
unfolding ◌and◌
returns-else-name_follows c = grind (arith, nat_tests, object-is)
