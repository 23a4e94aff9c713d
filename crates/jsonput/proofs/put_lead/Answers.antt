use Rattle.std.proofs.Common.{rules}
use Rattle.jsonput.specs.Laws.Values.{piece_room, named-room, lead_put}
use Rattle.jsonput.proofs.put_lead.Goals as goal

pub put_comma-next-requires : goal.put_comma-next-requires
put_comma-next-requires c = search (piece_room, rules)

pub put_name-requires-clause-m_in_bounds : goal.put_name-requires-clause-m_in_bounds
put_name-requires-clause-m_in_bounds c = search (named-room, rules)

pub returns : goal.returns
returns c = search (lead_put, rules)
