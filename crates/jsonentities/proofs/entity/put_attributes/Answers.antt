use Rattle.std.proofs.Common.{rules}
use Rattle.jsonentities.proofs.Holding.{attributes-due, attributes-some, attributes-room, attributes-wrote}
use Rattle.jsonentities.proofs.entity.put_attributes.Goals as goal

pub write_object-value-requires : goal.write_object-value-requires
write_object-value-requires c = search (attributes-due, rules)

pub overflow_sub-value : goal.overflow_sub-value
overflow_sub-value c = search (attributes-some, rules)

pub put_list-requires : goal.put_list-requires
put_list-requires c = search (attributes-room, rules)

pub returns : goal.returns
returns c = search (attributes-wrote, rules)
