use Prim.Native.Nat.{◌+◌, ◌*◌}
use Rattle.jsonruns.proofs.Signs.{ahead}
use Rattle.jsoncount.proofs.Items.{Items, Members}
use Rattle.jsoncount.proofs.values.+count_braced_count_items_count_members_count_value.Given as goal

abbrev pub decreases-count_braced : goal.decreases-count_braced
decreases-count_braced l = 3 * l.levels + 2

abbrev pub decreases-count_items : goal.decreases-count_items
decreases-count_items l = 3 * l.levels + 1

abbrev pub decreases-count_members : goal.decreases-count_members
decreases-count_members l = 3 * l.levels + 1

abbrev pub decreases-count_value : goal.decreases-count_value
decreases-count_value l = 3 * l.levels

abbrev pub invariant-count_items-loop-part : goal.invariant-count_items-loop-part
invariant-count_items-loop-part l = Items l.line l.at l.levels l.initial.tally l.tally l.part

abbrev pub decreases-count_items-loop-part : goal.decreases-count_items-loop-part
decreases-count_items-loop-part l = ahead l.line l.part

abbrev pub invariant-count_members-loop-part : goal.invariant-count_members-loop-part
invariant-count_members-loop-part l = Members l.line l.at l.levels l.initial.tally l.tally l.part

abbrev pub decreases-count_members-loop-part : goal.decreases-count_members-loop-part
decreases-count_members-loop-part l = ahead l.line l.part
