use Prim.Native.Nat.{◌-◌}
use lib.ListN.{length}
use Rattle.jsonread.specs.Spelling.{Alike}
use Rattle.jsonread.proofs.names.same_bytes.Given as goal

abbrev pub invariant-loop-k : goal.invariant-loop-k
invariant-loop-k l = Alike l.line l.a l.b l.k

abbrev pub decreases-loop-k : goal.decreases-loop-k
decreases-loop-k l = length l.line - l.k
