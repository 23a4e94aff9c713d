use Rattle.std.proofs.Common.{rules}
use Rattle.jsonpoints.specs.Laws.{records-first, records-second, records-put}
use Rattle.jsonpoints.proofs.put_records.Goals as goal

pub put_value_field-next-requires-clause-j_in_bounds : goal.put_value_field-next-requires-clause-j_in_bounds
put_value_field-next-requires-clause-j_in_bounds c = search (records-first, rules)

pub put_value_field-requires-clause-j_in_bounds : goal.put_value_field-requires-clause-j_in_bounds
put_value_field-requires-clause-j_in_bounds c = search (records-second, rules)

pub returns : goal.returns
returns c = search (records-put, rules)
