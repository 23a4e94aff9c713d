use Prim.Native.Nat.{◌+◌, ◌*◌}
use Rattle.jsonruns.proofs.Signs.{ahead}
use Rattle.jsonadds.proofs.Cycle.{Putting}
use Rattle.jsonadds.proofs.Members.{Gathering}
use Rattle.jsonplace.proofs.+put_items_put_members_write_array_write_braced_write_object_write_value.Given as goal

abbrev pub decreases-put_items : goal.decreases-put_items
decreases-put_items l = 4 * l.levels + 1

abbrev pub decreases-put_members : goal.decreases-put_members
decreases-put_members l = 4 * l.levels + 1

abbrev pub decreases-write_array : goal.decreases-write_array
decreases-write_array l = 4 * l.levels + 2

abbrev pub decreases-write_braced : goal.decreases-write_braced
decreases-write_braced l = 4 * l.levels + 3

abbrev pub decreases-write_object : goal.decreases-write_object
decreases-write_object l = 4 * l.levels + 2

abbrev pub decreases-write_value : goal.decreases-write_value
decreases-write_value l = 4 * l.levels

abbrev pub invariant-put_items-loop-part : goal.invariant-put_items-loop-part
invariant-put_items-loop-part l = Putting l.levels l.line l.at l.fn.names l.names l.used l.fn.out l.out l.b l.fn.next l.count l.next l.k l.part

abbrev pub decreases-put_items-loop-part : goal.decreases-put_items-loop-part
decreases-put_items-loop-part l = ahead l.line l.part

abbrev pub invariant-put_members-loop-i : goal.invariant-put_members-loop-i
invariant-put_members-loop-i l = Gathering l.levels l.line l.fn.names l.names l.used l.stop l.fn.out l.out l.b l.fn.next l.next l.i
