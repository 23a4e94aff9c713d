use Rattle.std.proofs.Common.{rules}
use Rattle.jsonexport.specs.Laws.{entities_of, tail-size}
use Rattle.laws.specs.Checked.{checked-bodies}
use Rattle.jsonexport.proofs.tail_size.Goals as goal

pub point_word-first-requires : goal.point_word-first-requires
point_word-first-requires c = search (checked-bodies, rules)

pub point_word-items-requires : goal.point_word-items-requires
point_word-items-requires c = search (checked-bodies, rules)

pub entities_size-requires-clause-entities : goal.entities_size-requires-clause-entities
entities_size-requires-clause-entities c = search (entities_of, rules)

pub returns : goal.returns
returns c = search (tail-size, rules)
