use Rattle.std.proofs.Common.{rules}
use Rattle.equality.proofs.Cells.{tags_differ, both-unbound, both_values, both-plain}
use Rattle.equality.proofs.values.binding_eq.Goals as goal

pub returns-then-x-y : goal.returns-then-x-y
returns-then-x-y c = search (tags_differ, rules)

pub returns-in-0 : goal.returns-in-0
returns-in-0 c = search (both-unbound, rules)

pub returns-in-2 : goal.returns-in-2
returns-in-2 c = search (both_values, rules)

pub returns-in_default : goal.returns-in_default
returns-in_default c = search (both-plain, rules)
