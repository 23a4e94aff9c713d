use Rattle.std.proofs.Common.{rules}
use Rattle.jsonexport.specs.Laws.{action-few, kind-few, names-size}
use Rattle.laws.specs.Checked.{checked-bodies}
use Rattle.jsonexport.proofs.names_size.Goals as goal

pub point_word-requires : goal.point_word-requires
point_word-requires c = search (checked-bodies, rules)

pub added-action-requires : goal.added-action-requires
added-action-requires c = search (action-few, rules)

pub point_word-requires-2 : goal.point_word-requires-2
point_word-requires-2 c = search (checked-bodies, rules)

pub added-requires : goal.added-requires
added-requires c = search (kind-few, rules)

pub returns : goal.returns
returns c = search (names-size, rules)
