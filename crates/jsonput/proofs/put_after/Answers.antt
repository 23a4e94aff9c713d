use Rattle.std.proofs.Common.{rules}
use Rattle.jsonput.specs.Laws.Values.{piece_room, more_room, more-put}
use Rattle.jsonput.proofs.put_after.Goals as goal

pub put_piece-next-requires : goal.put_piece-next-requires
put_piece-next-requires c = search (piece_room, rules)

pub put_string-requires : goal.put_string-requires
put_string-requires c = search (more_room, rules)

pub returns : goal.returns
returns c = search (more-put, rules)
