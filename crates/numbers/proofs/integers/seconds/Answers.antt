use Rattle.std.proofs.Common.{rules}
use Rattle.meaning.specs.Number.{seconds}
use Rattle.numbers.proofs.integers.seconds.Goals as goal

pub returns : goal.returns
unfolding seconds
returns c = search rules
