use Rattle.std.proofs.Common.{arith}
use Rattle.std.proofs.lemmas.Bool.Decides.{nat_tests}
use Rattle.meaning.specs.Tests.{◌or◌}
use Rattle.jsontext.specs.Reading.{is_blank}
use Rattle.jsonread.proofs.bytes.is_blank.Goals as goal

pub returns-then-c-eq9 : goal.returns-then-c-eq9
unfolding is_blank ◌or◌
returns-then-c-eq9 c = grind (arith, nat_tests)

pub returns-else-c-eq9 : goal.returns-else-c-eq9
unfolding is_blank ◌or◌
returns-else-c-eq9 c = grind (arith, nat_tests)
