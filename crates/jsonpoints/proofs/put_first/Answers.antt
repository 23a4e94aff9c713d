use Rattle.std.proofs.Common.{rules}
use Rattle.jsonpoints.specs.Laws.{early-first, early-second, early-put}
use Rattle.jsonpoints.proofs.put_first.Goals as goal

pub put_head-next-requires-clause-p_in_bounds : goal.put_head-next-requires-clause-p_in_bounds
put_head-next-requires-clause-p_in_bounds c = search (early-first, rules)

pub put_names-requires-clause-p_in_bounds : goal.put_names-requires-clause-p_in_bounds
put_names-requires-clause-p_in_bounds c = search (early-second, rules)

pub returns : goal.returns
returns c = search (early-put, rules)
