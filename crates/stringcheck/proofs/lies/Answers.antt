-- A byte is there and lies from low to high
use Rattle.std.proofs.Common.{arith}
use Rattle.std.proofs.lemmas.Bool.Decides.{nat_tests}
use Rattle.meaning.specs.Tests.{◌and◌}
use Rattle.stringcheck.specs.Letters.{lies_at}
use Rattle.stringcheck.proofs.lies.Goals as goal

pub returns-then-low-t : goal.returns-then-low-t
unfolding lies_at ◌and◌
returns-then-low-t c = grind (arith, nat_tests)

pub returns-else-low-t : goal.returns-else-low-t
unfolding lies_at ◌and◌
returns-else-low-t c = grind (arith, nat_tests)
