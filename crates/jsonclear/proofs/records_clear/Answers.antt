use Rattle.std.proofs.Common.{rules}
use Rattle.meaning.specs.Tests.{◌and◌}
use Rattle.laws.specs.Checked.{checked-bodies}
use Rattle.jsonclear.proofs.records_clear.Goals as goal

pub point_word-requires : goal.point_word-requires
point_word-requires c = search (checked-bodies, rules)

pub point_word-requires-then-is_clear : goal.point_word-requires-then-is_clear
point_word-requires-then-is_clear c = search (checked-bodies, rules)

pub returns-then-is_clear : goal.returns-then-is_clear
unfolding ◌and◌
returns-then-is_clear c = search rules

pub returns-else-is_clear : goal.returns-else-is_clear
unfolding ◌and◌
returns-else-is_clear c = search rules
