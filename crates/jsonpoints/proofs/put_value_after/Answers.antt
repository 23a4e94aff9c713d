use Rattle.std.proofs.Common.{rules}
use Rattle.jsonpoints.specs.Laws.{first-room, second-room, second-put}
use Rattle.jsonpoints.proofs.put_value_after.Goals as goal

pub put_piece-next-requires : goal.put_piece-next-requires
put_piece-next-requires c = search (first-room, rules)

pub put_value-requires-clause-v_in_bounds : goal.put_value-requires-clause-v_in_bounds
put_value-requires-clause-v_in_bounds c = search (second-room, rules)

pub returns : goal.returns
returns c = search (second-put, rules)
