use Rattle.std.proofs.Common.{rules}
use Rattle.jsonnames.proofs.Joins.{pair-aside, merged_aside, merged_none}
use Rattle.jsonnames.proofs.merges.merge.Goals as goal

pub returns-then-in_order : goal.returns-then-in_order
returns-then-in_order c = search (merged_none, rules)

pub join-requires : goal.join-requires
join-requires c = search (pair-aside, rules)

pub returns-else-names-high : goal.returns-else-names-high
returns-else-names-high c = search (merged_aside, rules)
