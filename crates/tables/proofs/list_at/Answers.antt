use Rattle.std.proofs.Common.{rules}
use Rattle.meaning.specs.Case.{list}
use Rattle.tables.proofs.list_at.Goals as goal

pub returns : goal.returns
unfolding list
returns c = search rules
