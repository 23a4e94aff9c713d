-- Three bytes that follow, one after the other
use Rattle.std.proofs.Common.{arith, rules}
use Rattle.std.proofs.lemmas.Bool.Decides.{nat_tests}
use Rattle.meaning.specs.Tests.{◌and◌}
use Rattle.stringcheck.specs.Letters.{three_follow}
use Rattle.stringcheck.proofs.Letters.{lies-before}
use Rattle.stringcheck.proofs.three_follow.Goals as goal

pub two_follow-requires : goal.two_follow-requires
two_follow-requires c = search (lies-before, rules)

pub returns-then-lies : goal.returns-then-lies
unfolding three_follow ◌and◌
returns-then-lies c = grind (arith, nat_tests)

pub returns-else-lies : goal.returns-else-lies
unfolding three_follow ◌and◌
returns-else-lies c = grind (arith, nat_tests)
