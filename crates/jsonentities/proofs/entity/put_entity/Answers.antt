use Rattle.std.proofs.Common.{rules}
use Rattle.jsonentities.proofs.Holding.{keys-due, fields-due, entity-wrote}
use Rattle.jsonentities.proofs.entity.put_entity.Goals as goal

pub put_keys-attributes-requires : goal.put_keys-attributes-requires
put_keys-attributes-requires c = search (keys-due, rules)

pub put_attributes-requires : goal.put_attributes-requires
put_attributes-requires c = search (fields-due, rules)

pub returns : goal.returns
returns c = search (entity-wrote, rules)
