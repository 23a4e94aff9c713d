-- Two bytes that follow, one after the other
use Rattle.std.proofs.Common.{arith}
use Rattle.std.proofs.lemmas.Bool.Decides.{nat_tests}
use Rattle.meaning.specs.Tests.{◌and◌}
use Rattle.stringcheck.specs.Letters.{two_follow}
use Rattle.stringcheck.proofs.two_follow.Goals as goal

pub returns-then-lies : goal.returns-then-lies
unfolding two_follow ◌and◌
returns-then-lies c = grind (arith, nat_tests)

pub returns-else-lies : goal.returns-else-lies
unfolding two_follow ◌and◌
returns-else-lies c = grind (arith, nat_tests)
