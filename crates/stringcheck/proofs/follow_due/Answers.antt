-- What a following byte makes due: it lies from low to high, or is wrong
use Rattle.std.proofs.Common.{arith}
use Rattle.std.proofs.lemmas.Bool.Decides.{nat_tests}
use Rattle.meaning.specs.Tests.{choose}
use Rattle.meaning.specs.Text.{follow}
use Rattle.stringcheck.proofs.follow_due.Goals as goal

pub returns-then-b-high : goal.returns-then-b-high
unfolding follow choose
returns-then-b-high c = grind (arith, nat_tests)

pub returns-else-low-b : goal.returns-else-low-b
unfolding follow choose
returns-else-low-b c = grind (arith, nat_tests)
