use Rattle.std.proofs.Common.{rules}
use Rattle.equality.proofs.Joining.{join-down, join_up}
use Rattle.equality.proofs.values.join.Goals as goal

pub lead-requires : goal.lead-requires
lead-requires c = search (join-down, rules)

pub lead-requires-else-e : goal.lead-requires-else-e
lead-requires-else-e c = search (join_up, rules)
