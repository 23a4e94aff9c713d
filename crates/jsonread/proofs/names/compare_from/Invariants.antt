use Prim.Native.Nat.{◌+◌, ◌*◌, ◌-◌}
use lib.ListN.{length}
use Rattle.jsonread.specs.Spelling.{Comparing}
use Rattle.jsonread.proofs.names.compare_from.Given as goal

abbrev pub invariant-loop-p : goal.invariant-loop-p
invariant-loop-p l = Comparing l.line l.a l.b l.x l.y

abbrev pub decreases-loop-p : goal.decreases-loop-p
decreases-loop-p l = 4 * (length l.line - l.x.at) + l.x.left
