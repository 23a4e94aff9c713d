use Rattle.std.proofs.Common.{rules}
use Rattle.jsonpoints.specs.Laws.{time-first, time-second, time-put}
use Rattle.laws.specs.Checked.{checked-bodies}
use Rattle.jsonpoints.proofs.put_time.Goals as goal

pub put_piece-next-requires : goal.put_piece-next-requires
put_piece-next-requires c = search (time-first, rules)

pub point_word-requires : goal.point_word-requires
point_word-requires c = search (checked-bodies, rules)

pub point_word-requires-2 : goal.point_word-requires-2
point_word-requires-2 c = search (checked-bodies, rules)

pub put_integer-requires : goal.put_integer-requires
put_integer-requires c = search (time-second, rules)

pub returns : goal.returns
returns c = search (time-put, rules)
