use Rattle.std.proofs.Common.{rules}
use mathlib.Core.Path.{sym, ◌∙◌}
use Rattle.laws.specs.Words.{words-at}
use Rattle.tables.proofs.word_at.Goals as goal

pub returns : goal.returns
returns c = c.word_of.ensures ∙ sym (words-at _ _ (search rules))
