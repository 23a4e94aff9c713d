use Rattle.std.proofs.Common.{rules}
use Rattle.jsonpoints.specs.Laws.{names-first, names-second, names-put}
use Rattle.jsonpoints.proofs.put_names.Goals as goal

pub put_string_field-next-requires-clause-j_in_bounds : goal.put_string_field-next-requires-clause-j_in_bounds
put_string_field-next-requires-clause-j_in_bounds c = search (names-first, rules)

pub put_string_field-requires-clause-j_in_bounds : goal.put_string_field-requires-clause-j_in_bounds
put_string_field-requires-clause-j_in_bounds c = search (names-second, rules)

pub returns : goal.returns
returns c = search (names-put, rules)
