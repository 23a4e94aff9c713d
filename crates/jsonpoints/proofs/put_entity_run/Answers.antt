use Rattle.std.proofs.Common.{rules}
use Rattle.jsonpoints.specs.Laws.{entities_in, entities-first, entities-second, entities-put}
use Rattle.laws.specs.Checked.{checked-bodies}
use Rattle.jsonpoints.proofs.put_entity_run.Goals as goal

pub put_piece-next-requires : goal.put_piece-next-requires
put_piece-next-requires c = search (entities-first, rules)

pub point_word-requires : goal.point_word-requires
point_word-requires c = search (checked-bodies, rules)

pub point_word-requires-2 : goal.point_word-requires-2
point_word-requires-2 c = search (checked-bodies, rules)

pub put_entities-requires-clause-bound : goal.put_entities-requires-clause-bound
put_entities-requires-clause-bound c = search (entities_in, rules)

pub put_entities-requires-clause-in_bounds : goal.put_entities-requires-clause-in_bounds
put_entities-requires-clause-in_bounds c = search (entities-second, rules)

pub returns : goal.returns
returns c = search (entities-put, rules)
