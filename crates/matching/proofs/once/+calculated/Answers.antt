use Rattle.std.proofs.Common.{rules}
use Rattle.matching.proofs.Leaves.{stands}
use Rattle.matching.proofs.Free.{left-falls, right-falls, tells_open, tells-leaf, tells_none, tells_both, tells-sides}
use Rattle.laws.specs.Checked.{checked-bodies}
use borrow.Author.Tests.{not-true}
use Rattle.matching.proofs.once.+calculated.Goals as goal

pub node_at-node-requires : goal.node_at-node-requires
node_at-node-requires t c = search (checked-bodies, rules)

pub returns-then-branches : goal.returns-then-branches
returns-then-branches t c = search (tells-sides, rules)

pub calculated-requires : goal.calculated-requires
calculated-requires t c = search (left-falls, rules)

pub returns-in_err-a-in-Arithmetic : goal.returns-in_err-a-in-Arithmetic
returns-in_err-a-in-Arithmetic t c = search (tells_open, rules)

pub returns-then-not-is_int : goal.returns-then-not-is_int
returns-then-not-is_int t c = search (tells_none, not-true, rules)

pub calculated-requires-in-Arithmetic : goal.calculated-requires-in-Arithmetic
calculated-requires-in-Arithmetic t c = search (right-falls, rules)

pub returns-in_err-b-in-Arithmetic : goal.returns-in_err-b-in-Arithmetic
returns-in_err-b-in-Arithmetic t c = search (tells_open, rules)

pub leaf_of-requires : goal.leaf_of-requires
leaf_of-requires t c = search (stands, rules)

pub returns-in-Aggregate : goal.returns-in-Aggregate
returns-in-Aggregate t c = search (tells_open, rules)

pub returns-in_ok-b-in-Arithmetic : goal.returns-in_ok-b-in-Arithmetic
returns-in_ok-b-in-Arithmetic t c = tells_both c.arithmetic.ensures c.in_ok-b-in-Arithmetic.ensures c.in_ok-a-in-Arithmetic.ensures c.in-Arithmetic.is c.node_at-node.ensures

pub returns-in_default : goal.returns-in_default
returns-in_default t c = search (tells-leaf, rules)
