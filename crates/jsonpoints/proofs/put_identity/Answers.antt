use Rattle.std.proofs.Common.{rules}
use Rattle.jsonpoints.specs.Laws.{first-room, second-room, second-put, id_same}
use Rattle.laws.specs.Checked.{checked-bodies}
use Rattle.jsonpoints.proofs.put_identity.Goals as goal

pub put_type-next-requires-clause-m_in_bounds : goal.put_type-next-requires-clause-m_in_bounds
put_type-next-requires-clause-m_in_bounds c = search (first-room, rules)

pub list_at-requires : goal.list_at-requires
list_at-requires c = search (checked-bodies, rules)

pub put_after-requires-clause-n_in_bounds : goal.put_after-requires-clause-n_in_bounds
put_after-requires-clause-n_in_bounds c = search (second-room, id_same, rules)

pub returns : goal.returns
returns c = search (second-put, id_same, rules)
