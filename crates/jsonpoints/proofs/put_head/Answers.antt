use Rattle.std.proofs.Common.{rules}
use Rattle.jsonpoints.specs.Laws.{head_first, head-second, head-put}
use Rattle.jsonpoints.proofs.put_head.Goals as goal

pub put_time-next-requires-clause-p_in_bounds : goal.put_time-next-requires-clause-p_in_bounds
put_time-next-requires-clause-p_in_bounds c = search (head_first, rules)

pub put_space-requires-clause-p_in_bounds : goal.put_space-requires-clause-p_in_bounds
put_space-requires-clause-p_in_bounds c = search (head-second, rules)

pub returns : goal.returns
returns c = search (head-put, rules)
