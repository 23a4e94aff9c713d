-- A name of an object: a string, after the one before it
use Rattle.std.proofs.Common.{arith}
use Rattle.std.proofs.lemmas.Bool.Decides.{nat_tests}
use Rattle.meaning.specs.Tests.{◌and◌}
use Rattle.stringcheck.specs.Ranges.{rises-is}
use Rattle.valuecheck.specs.Blocks.{object_name}
use Rattle.valuecheck.proofs.name_follows.Goals as goal

pub returns-else-name-string_count : goal.returns-else-name-string_count
unfolding object_name ◌and◌
returns-else-name-string_count c = grind (arith, nat_tests)

pub returns-then-i-eq0 : goal.returns-then-i-eq0
unfolding object_name ◌and◌
returns-then-i-eq0 c = grind (arith, nat_tests, rises-is)

pub returns-else-i-eq0 : goal.returns-else-i-eq0
unfolding object_name ◌and◌
returns-else-i-eq0 c = grind (arith, nat_tests, rises-is)
