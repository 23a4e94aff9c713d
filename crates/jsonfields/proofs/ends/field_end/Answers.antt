use Rattle.std.proofs.Common.{rules}
use Rattle.jsonfields.proofs.Valued.{field-good, field-ends}
use Rattle.jsonfields.proofs.ends.field_end.Goals as goal

pub value_end-requires : goal.value_end-requires
value_end-requires c = search (field-good, rules)

pub returns : goal.returns
returns c = search (field-ends, rules)
