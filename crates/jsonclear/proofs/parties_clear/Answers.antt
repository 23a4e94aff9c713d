use Rattle.std.proofs.Common.{rules}
use Rattle.meaning.specs.Tests.{◌and◌}
use Rattle.laws.specs.Checked.{checked-bodies}
use Rattle.jsonclear.proofs.parties_clear.Goals as goal

pub point_word-requires : goal.point_word-requires
point_word-requires c = search (checked-bodies, rules)

pub point_word-requires-then-maybe_clear : goal.point_word-requires-then-maybe_clear
point_word-requires-then-maybe_clear c = search (checked-bodies, rules)

pub returns-then-maybe_clear : goal.returns-then-maybe_clear
unfolding ◌and◌
returns-then-maybe_clear c = search rules

pub returns-else-maybe_clear : goal.returns-else-maybe_clear
unfolding ◌and◌
returns-else-maybe_clear c = search rules
