use Rattle.std.proofs.Common.{rules}
use Rattle.jsonexport.specs.Laws.{principal-few, resource-few, parties-size}
use Rattle.laws.specs.Checked.{checked-bodies}
use Rattle.jsonexport.proofs.parties_size.Goals as goal

pub point_word-requires : goal.point_word-requires
point_word-requires c = search (checked-bodies, rules)

pub maybe_added-principal-requires : goal.maybe_added-principal-requires
maybe_added-principal-requires c = search (principal-few, rules)

pub point_word-requires-2 : goal.point_word-requires-2
point_word-requires-2 c = search (checked-bodies, rules)

pub maybe_added-requires : goal.maybe_added-requires
maybe_added-requires c = search (resource-few, rules)

pub returns : goal.returns
returns c = search (parties-size, rules)
