use Rattle.std.proofs.Common.{rules}
use Rattle.jsonfields.proofs.Valued.{levels-few, levels-more}
use Rattle.jsonfields.proofs.ends.levels_of.Goals as goal

pub returns-then-field-lt8 : goal.returns-then-field-lt8
returns-then-field-lt8 c = search (levels-few, rules)

pub returns-else-field-lt8 : goal.returns-else-field-lt8
returns-else-field-lt8 c = search (levels-more, rules)
