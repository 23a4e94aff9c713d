use Rattle.std.proofs.Common.{rules}
use Rattle.matching.proofs.Leaves.{stands}
use Rattle.matching.proofs.Free.{sides_fall, left_below, right-below, settles_open, open_after, settles_marked, settles_leaf, settles_none, settles_both, settles_sides, settles_kept}
use Rattle.laws.specs.Checked.{checked-bodies}
use borrow.Author.Tests.{not-true}
use Rattle.matching.proofs.once.+settle_settle_sides.Goals as goal

pub settle-node_at-node-requires : goal.settle-node_at-node-requires
settle-node_at-node-requires t c = search (checked-bodies, rules)

pub settle-returns-then-at-ge-NODES : goal.settle-returns-then-at-ge-NODES
settle-returns-then-at-ge-NODES t c = search (settles_open, rules)

pub settle-returns-then-marks-at-eq1 : goal.settle-returns-then-marks-at-eq1
settle-returns-then-marks-at-eq1 t c = search (settles_marked, rules)

pub settle-settle_sides-requires : goal.settle-settle_sides-requires
settle-settle_sides-requires t c = search (sides_fall, rules)

pub settle-returns-in_err-v-in-Arithmetic : goal.settle-returns-in_err-v-in-Arithmetic
settle-returns-in_err-v-in-Arithmetic t c = search (open_after, rules)

pub settle-returns-then-v-eq1 : goal.settle-returns-then-v-eq1
settle-returns-then-v-eq1 t c = search (settles_kept, rules)

pub settle-leaf_of-requires : goal.settle-leaf_of-requires
settle-leaf_of-requires t c = search (stands, rules)

pub settle-returns-in-Aggregate : goal.settle-returns-in-Aggregate
settle-returns-in-Aggregate t c = search (settles_open, rules)

pub settle-returns-else-v-eq1 : goal.settle-returns-else-v-eq1
settle-returns-else-v-eq1 t c = settles_sides c.in_ok-v-in-Arithmetic.ensures c.in-Arithmetic.is c.node_at-node.ensures

pub settle-returns-in_default : goal.settle-returns-in_default
settle-returns-in_default t c = settles_leaf c.requires.checked _ c.node_at-node.ensures c.requires.known (search rules) c.leaf_of.ensures

pub settle_sides-settle-requires : goal.settle_sides-settle-requires
settle_sides-settle-requires t c = search (left_below, rules)

pub settle_sides-returns-in_err-left : goal.settle_sides-returns-in_err-left
settle_sides-returns-in_err-left t c = search (open_after, rules)

pub settle_sides-returns-then-not-is_int : goal.settle_sides-returns-then-not-is_int
settle_sides-returns-then-not-is_int t c = search (settles_none, not-true, rules)

pub settle_sides-settle-requires-2 : goal.settle_sides-settle-requires-2
settle_sides-settle-requires-2 t c = search (right-below, rules)

pub settle_sides-returns-in_err-right : goal.settle_sides-returns-in_err-right
settle_sides-returns-in_err-right t c = search (open_after, rules)

pub settle_sides-returns : goal.settle_sides-returns
settle_sides-returns t c = search (settles_both, rules)
