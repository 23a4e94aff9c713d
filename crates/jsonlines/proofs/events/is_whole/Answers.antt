use Rattle.std.proofs.Common.{arith}
use Rattle.std.proofs.lemmas.Bool.Decides.{nat_tests}
use Rattle.meaning.specs.Tests.{◌and◌}
use Rattle.jsonlines.specs.Events.{whole_bits}
use Rattle.jsonlines.proofs.events.is_whole.Goals as goal

pub returns-then-seen-6 : goal.returns-then-seen-6
unfolding whole_bits ◌and◌
returns-then-seen-6 c = grind (arith, nat_tests)

pub returns-else-seen-6 : goal.returns-else-seen-6
unfolding whole_bits ◌and◌
returns-else-seen-6 c = grind (arith, nat_tests)
