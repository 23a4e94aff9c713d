-- The finished case's mosts, one after the other
use Rattle.std.proofs.Common.{arith}
use Rattle.std.proofs.lemmas.Bool.Decides.{nat_tests}
use Rattle.meaning.specs.Tests.{◌and◌}
use Rattle.making.proofs.Rules.{mosts-kept}
use Rattle.making.proofs.keeps_mosts.Goals as goal

pub returns-then-size-le4194304 : goal.returns-then-size-le4194304
unfolding ◌and◌
returns-then-size-le4194304 c = grind (arith, nat_tests, mosts-kept c.args.s.now c.args.marks.now c.requires.s_value c.requires.n_value c.requires.finished_size)

pub returns-else-size-le4194304 : goal.returns-else-size-le4194304
unfolding ◌and◌
returns-else-size-le4194304 c = grind (arith, nat_tests, mosts-kept c.args.s.now c.args.marks.now c.requires.s_value c.requires.n_value c.requires.finished_size)
