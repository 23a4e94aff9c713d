use Rattle.std.proofs.Common.{rules}
use Rattle.jsonpoints.specs.Laws.{late_first, late_second, late_put}
use Rattle.jsonpoints.proofs.put_second.Goals as goal

pub put_records-next-requires-clause-p_in_bounds : goal.put_records-next-requires-clause-p_in_bounds
put_records-next-requires-clause-p_in_bounds c = search (late_first, rules)

pub put_rest-requires-clause-p_in_bounds : goal.put_rest-requires-clause-p_in_bounds
put_rest-requires-clause-p_in_bounds c = search (late_second, rules)

pub returns : goal.returns
returns c = search (late_put, rules)
