use Rattle.std.proofs.Common.{rules}
use Rattle.meaning.specs.Case.{offset}
use Rattle.tables.proofs.offset_of.Goals as goal

pub returns : goal.returns
unfolding offset
returns c = search rules
