use Rattle.std.proofs.Common.{rules}
use Rattle.jsonpoints.specs.Laws.{fields-first, fields-second, fields-put}
use Rattle.jsonpoints.proofs.put_fields.Goals as goal

pub put_first-next-requires-clause-p_in_bounds : goal.put_first-next-requires-clause-p_in_bounds
put_first-next-requires-clause-p_in_bounds c = search (fields-first, rules)

pub put_second-requires-clause-p_in_bounds : goal.put_second-requires-clause-p_in_bounds
put_second-requires-clause-p_in_bounds c = search (fields-second, rules)

pub returns : goal.returns
returns c = search (fields-put, rules)
