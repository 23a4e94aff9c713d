use Rattle.std.proofs.Common.{rules}
use Rattle.jsonpoints.specs.Laws.{entity-first, entity-second, entity-put}
use Rattle.jsonpoints.proofs.put_entity.Goals as goal

pub put_identity-next-requires-clause-m_in_bounds : goal.put_identity-next-requires-clause-m_in_bounds
put_identity-next-requires-clause-m_in_bounds c = search (entity-first, rules)

pub put_attributes-requires-clause-m_in_bounds : goal.put_attributes-requires-clause-m_in_bounds
put_attributes-requires-clause-m_in_bounds c = search (entity-second, rules)

pub returns : goal.returns
returns c = search (entity-put, rules)
