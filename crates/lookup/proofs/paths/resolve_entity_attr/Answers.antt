use Rattle.std.proofs.Common.{rules}
use Rattle.lookup.proofs.Attributes.{attr_is}
use Rattle.lookup.proofs.paths.resolve_entity_attr.Goals as goal

pub returns : goal.returns
returns c = search (attr_is, rules)
