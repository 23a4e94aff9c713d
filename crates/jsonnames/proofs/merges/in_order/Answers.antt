use Rattle.std.proofs.Common.{rules}
use Rattle.jsonnames.proofs.Joins.{order-lower, order-upper, order-due, order-told}
use Rattle.jsonnames.proofs.merges.in_order.Goals as goal

pub returns-then-mid-low : goal.returns-then-mid-low
returns-then-mid-low c = search (order-lower, rules)

pub returns-then-high-mid : goal.returns-then-high-mid
returns-then-high-mid c = search (order-upper, rules)

pub comes_last-requires : goal.comes_last-requires
comes_last-requires c = search (order-due, rules)

pub returns : goal.returns
returns c = search (order-told, rules)
