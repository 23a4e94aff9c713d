use Rattle.std.proofs.Common.{rules}
use Rattle.jsonexport.specs.Laws.{type-few, id-few, object-few, entity-size}
use Rattle.laws.specs.Checked.{checked-bodies}
use Rattle.jsonexport.proofs.entity_size.Goals as goal

pub list_at-requires : goal.list_at-requires
list_at-requires c = search (checked-bodies, rules)

pub added-named-requires : goal.added-named-requires
added-named-requires c = search (type-few, rules)

pub list_at-requires-2 : goal.list_at-requires-2
list_at-requires-2 c = search (checked-bodies, rules)

pub added-identified-requires : goal.added-identified-requires
added-identified-requires c = search (id-few, rules)

pub list_at-requires-3 : goal.list_at-requires-3
list_at-requires-3 c = search (checked-bodies, rules)

pub added-requires : goal.added-requires
added-requires c = search (object-few, rules)

pub returns : goal.returns
returns c = search (entity-size, rules)
