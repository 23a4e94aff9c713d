use Rattle.std.proofs.Common.{rules}
use Rattle.jsonpoints.specs.Laws.{putting_none, entities-room, entities-more, putting_all}
use Rattle.jsonpoints.proofs.put_entities.Goals as goal

pub loop-i-init : goal.loop-i-init
loop-i-init c = search (putting_none, rules)

pub put_entity-next-requires-clause-m_in_bounds : goal.put_entity-next-requires-clause-m_in_bounds
put_entity-next-requires-clause-m_in_bounds c = search (entities-room, rules)

pub loop-i-preserved : goal.loop-i-preserved
loop-i-preserved c = search (entities-more, rules)

pub returns : goal.returns
returns c = search (putting_all, rules)
