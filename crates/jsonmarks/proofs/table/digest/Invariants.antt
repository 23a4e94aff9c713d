use Prim.Native.Nat.{◌+◌, ◌*◌, ◌-◌}
use lib.ListN.{length}
use Rattle.jsonmarks.specs.Marks.{Digesting}
use Rattle.jsonmarks.proofs.table.digest.Given as goal

abbrev pub invariant-loop-b : goal.invariant-loop-b
invariant-loop-b l = Digesting l.line l.at l.x l.sum

abbrev pub decreases-loop-b : goal.decreases-loop-b
decreases-loop-b l = 4 * (length l.line - l.x.at) + l.x.left
