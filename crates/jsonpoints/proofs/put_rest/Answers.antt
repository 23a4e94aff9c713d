use Rattle.std.proofs.Common.{rules}
use Rattle.jsonpoints.specs.Laws.{rest-first, rest-second, rest_put}
use Rattle.jsonpoints.proofs.put_rest.Goals as goal

pub put_parties-next-requires-clause-p_in_bounds : goal.put_parties-next-requires-clause-p_in_bounds
put_parties-next-requires-clause-p_in_bounds c = search (rest-first, rules)

pub put_entity_run-requires-clause-p_in_bounds : goal.put_entity_run-requires-clause-p_in_bounds
put_entity_run-requires-clause-p_in_bounds c = search (rest-second, rules)

pub returns : goal.returns
returns c = search (rest_put, rules)
