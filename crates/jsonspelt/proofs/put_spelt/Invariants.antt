use Prim.Native.Nat.{◌-◌}
use lib.ListN.{length}
use Rattle.jsonspelt.proofs.Going.{Putting}
use Rattle.jsonspelt.proofs.put_spelt.Given as goal

abbrev pub invariant-loop-i : goal.invariant-loop-i
invariant-loop-i l = Putting l.line l.at l.initial.out l.out l.to l.k l.i

abbrev pub decreases-loop-i : goal.decreases-loop-i
decreases-loop-i l = length l.line - l.i
