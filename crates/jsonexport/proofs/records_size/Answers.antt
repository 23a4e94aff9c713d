use Rattle.std.proofs.Common.{rules}
use Rattle.jsonexport.specs.Laws.{logged-few, context-few, records-size}
use Rattle.laws.specs.Checked.{checked-bodies}
use Rattle.jsonexport.proofs.records_size.Goals as goal

pub point_word-requires : goal.point_word-requires
point_word-requires c = search (checked-bodies, rules)

pub added-logged-requires : goal.added-logged-requires
added-logged-requires c = search (logged-few, rules)

pub point_word-requires-2 : goal.point_word-requires-2
point_word-requires-2 c = search (checked-bodies, rules)

pub added-requires : goal.added-requires
added-requires c = search (context-few, rules)

pub returns : goal.returns
returns c = search (records-size, rules)
