use Rattle.joining.proofs.Rules.{filling_none, filling_few, filling_full, filling_many, filling_more, filling_all}
use Rattle.std.proofs.Common.{rules}
use Rattle.joining.proofs.fill.Goals as goal

pub loop-k-init : goal.loop-k-init
loop-k-init c = search (filling_none, rules)

pub returns-then-fresh-m : goal.returns-then-fresh-m
returns-then-fresh-m c = search (filling_full, rules)

pub join_one-requires-clause-fresh : goal.join_one-requires-clause-fresh
join_one-requires-clause-fresh c = c.loop-k.invariant.is

pub join_one-requires-clause-m_in_bounds : goal.join_one-requires-clause-m_in_bounds
join_one-requires-clause-m_in_bounds c = c.if-fresh-m.false

pub join_one-requires-clause-n_bound : goal.join_one-requires-clause-n_bound
join_one-requires-clause-n_bound c = filling_few c.loop-k.invariant (search rules)

pub returns-in_default : goal.returns-in_default
returns-in_default c = search (filling_many, rules)

pub loop-k-preserved : goal.loop-k-preserved
loop-k-preserved c = search (filling_more, rules)

pub returns : goal.returns
returns c = search (filling_all, rules)
