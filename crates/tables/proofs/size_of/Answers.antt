use Rattle.std.proofs.Common.{rules}
use Rattle.meaning.specs.Case.{size}
use Rattle.tables.proofs.size_of.Goals as goal

pub returns : goal.returns
unfolding size
returns c = search rules
