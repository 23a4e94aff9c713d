use Rattle.std.proofs.Common.{rules}
use Rattle.jsonpoints.specs.Laws.{space-first, space-second, space-put}
use Rattle.laws.specs.Checked.{checked-bodies}
use Rattle.jsonpoints.proofs.put_space.Goals as goal

pub put_piece-next-requires : goal.put_piece-next-requires
put_piece-next-requires c = search (space-first, rules)

pub point_word-requires : goal.point_word-requires
point_word-requires c = search (checked-bodies, rules)

pub point_word-requires-2 : goal.point_word-requires-2
point_word-requires-2 c = search (checked-bodies, rules)

pub put_words-requires-clause-in_bounds : goal.put_words-requires-clause-in_bounds
put_words-requires-clause-in_bounds c = search (space-second, rules)

pub returns : goal.returns
returns c = search (space-put, rules)
