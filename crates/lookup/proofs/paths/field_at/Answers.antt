use Rattle.std.proofs.Common.{rules}
use Rattle.laws.specs.Checked.{checked-bodies}
use Rattle.lookup.proofs.Reach.{field_is}
use Rattle.lookup.proofs.paths.field_at.Goals as goal

pub point_word-requires : goal.point_word-requires
point_word-requires c = search (checked-bodies, rules)

pub returns : goal.returns
returns c = search (field_is, rules)
