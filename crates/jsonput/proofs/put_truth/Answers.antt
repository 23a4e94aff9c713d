use Rattle.std.proofs.Common.{rules}
use Rattle.jsonput.specs.Laws.Values.{true-room, true-put, false-room, false-put}
use Rattle.jsonput.proofs.put_truth.Goals as goal

pub put_piece-requires : goal.put_piece-requires
put_piece-requires c = search (true-room, rules)

pub returns-then-b-eq1 : goal.returns-then-b-eq1
returns-then-b-eq1 c = search (true-put, rules)

pub put_piece-requires-else-b-eq1 : goal.put_piece-requires-else-b-eq1
put_piece-requires-else-b-eq1 c = search (false-room, rules)

pub returns-else-b-eq1 : goal.returns-else-b-eq1
returns-else-b-eq1 c = search (false-put, rules)
