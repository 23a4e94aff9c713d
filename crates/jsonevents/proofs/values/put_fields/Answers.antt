use Rattle.std.proofs.Common.{rules}
use Rattle.jsonpieces.proofs.Values.{fields-here, fields-place, fields-some, fields-wrote}
use Rattle.jsonevents.proofs.values.put_fields.Goals as goal

pub overflow_add-at : goal.overflow_add-at
overflow_add-at c = search (fields-here, rules)

pub write_object-requires : goal.write_object-requires
write_object-requires c = search (fields-place, rules)

pub overflow_sub-result : goal.overflow_sub-result
overflow_sub-result c = search (fields-some, rules)

pub returns : goal.returns
returns c = search (fields-wrote, rules)
