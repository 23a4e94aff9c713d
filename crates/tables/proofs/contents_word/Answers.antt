use Rattle.std.proofs.Common.{rules}
use Rattle.meaning.specs.Case.{contents}
use Rattle.tables.proofs.contents_word.Goals as goal

pub returns : goal.returns
unfolding contents
returns c = search rules
