use Rattle.joining.proofs.Guessing.{gathering_all, gathering_more, gathering_none, gathering-room, gathering_sorted, takes_none}
use Rattle.std.proofs.Common.{rules}
use Rattle.joining.proofs.gather.Goals as goal

pub loop-i-init : goal.loop-i-init
loop-i-init c = search (gathering_none, rules)

pub returns-then-many-at : goal.returns-then-many-at
returns-then-many-at c = search (takes_none, rules)

pub take_one-requires-clause-in_order : goal.take_one-requires-clause-in_order
take_one-requires-clause-in_order c = search (gathering_sorted, rules)

pub take_one-requires-clause-n_in_bounds : goal.take_one-requires-clause-n_in_bounds
take_one-requires-clause-n_in_bounds c = search (gathering-room, rules)

pub returns-in_default : goal.returns-in_default
returns-in_default c = search (takes_none, rules)

pub loop-i-preserved : goal.loop-i-preserved
loop-i-preserved c = search (gathering_more, rules)

pub returns-then-all_seen : goal.returns-then-all_seen
returns-then-all_seen c = search (gathering_all, rules)

pub returns : goal.returns
returns c = search (takes_none, rules)
