use Rattle.std.proofs.Common.{rules}
use Rattle.jsonpoints.specs.Laws.{parties-first, parties-second, parties-put}
use Rattle.jsonpoints.proofs.put_parties.Goals as goal

pub put_maybe_field-next-requires-clause-j_in_bounds : goal.put_maybe_field-next-requires-clause-j_in_bounds
put_maybe_field-next-requires-clause-j_in_bounds c = search (parties-first, rules)

pub put_maybe_field-requires-clause-j_in_bounds : goal.put_maybe_field-requires-clause-j_in_bounds
put_maybe_field-requires-clause-j_in_bounds c = search (parties-second, rules)

pub returns : goal.returns
returns c = search (parties-put, rules)
