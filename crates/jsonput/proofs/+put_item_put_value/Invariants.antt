use Prim.Native.Nat.{◌+◌, ◌*◌}
use Rattle.jsonput.specs.Laws.Values.{Holding}
use Rattle.jsonput.proofs.+put_item_put_value.Given as goal

-- twice the number of the value, and one more for an item
abbrev pub decreases-put_item : goal.decreases-put_item
decreases-put_item l = 2 * l.v.0 + 1

abbrev pub decreases-put_value : goal.decreases-put_value
decreases-put_value l = 2 * l.v.0

abbrev pub invariant-put_value-loop-i : goal.invariant-put_value-loop-i
invariant-put_value-loop-i l = Holding l.s (2 * l.fn.v.0) l.h.kind l.h.first l.h.items l.initial.out l.out l.initial.next l.i l.next
