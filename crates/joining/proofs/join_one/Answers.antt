use Rattle.std.proofs.Common.{arith, rules}
use Rattle.joining.proofs.Rules.{beside, keeps-fresh, keeps-ordered, keeps-none, keeps-more, place-few, places-room}
use Rattle.joining.proofs.join_one.Goals as goal

pub returns-then-stands_at : goal.returns-then-stands_at
returns-then-stands_at c = search (keeps-fresh, rules)

pub place_beside-p-requires-clause-in_order : goal.place_beside-p-requires-clause-in_order
place_beside-p-requires-clause-in_order c = c.requires.fresh.sorted

pub place_beside-p-requires-clause-m_in_bounds : goal.place_beside-p-requires-clause-m_in_bounds
place_beside-p-requires-clause-m_in_bounds c = omega (arith, places-room c.requires.fresh c.requires.m_in_bounds)

pub place_beside-p-requires-clause-q_le_m : goal.place_beside-p-requires-clause-q_le_m
place_beside-p-requires-clause-q_le_m c = c.place_of-q.ensures.inside

pub place_beside-p-requires-clause-beside : goal.place_beside-p-requires-clause-beside
place_beside-p-requires-clause-beside c = beside c.requires.fresh c.text_in-x.ensures c.place_of-q.ensures c.stands_at.ensures c.if-stands_at.false

pub returns-then-stands_at-2 : goal.returns-then-stands_at-2
returns-then-stands_at-2 c = search (keeps-ordered, rules)

pub returns-then-order-n : goal.returns-then-order-n
returns-then-order-n c = keeps-none c.requires.fresh c.text_in-x.ensures c.place_of-q.ensures c.stands_at.ensures c.if-stands_at.false c.place_beside-p.ensures c.stands_at-2.ensures c.if-stands_at-2.false (omega (arith, c.if-order-n.true))

pub narrow-requires : goal.narrow-requires
narrow-requires c = place-few c.place_beside-p.ensures c.requires.n_bound

pub put_at-requires-2-clause-n_in_bounds : goal.put_at-requires-2-clause-n_in_bounds
put_at-requires-2-clause-n_in_bounds c = places-room c.requires.fresh c.requires.m_in_bounds

pub put_at-requires-2-clause-p_le_n : goal.put_at-requires-2-clause-p_le_n
put_at-requires-2-clause-p_le_n c = c.place_of-q.ensures.inside

pub returns : goal.returns
returns c = keeps-more c.requires.fresh c.text_in-x.ensures c.place_of-q.ensures c.stands_at.ensures c.if-stands_at.false c.place_beside-p.ensures c.stands_at-2.ensures c.if-stands_at-2.false (omega (arith, c.if-order-n.false)) c.requires.m_in_bounds c.put_at.ensures c.put_at-2.ensures c.narrow.ensures
