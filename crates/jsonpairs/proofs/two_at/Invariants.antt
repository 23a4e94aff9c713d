use Prim.Native.Nat.{◌-◌}
use lib.ListN.{length}
use Rattle.jsonpairs.proofs.Turns.{Pairing}
use Rattle.jsonpairs.proofs.two_at.Given as goal

abbrev pub invariant-loop-e : goal.invariant-loop-e
invariant-loop-e l = Pairing l.line l.at l.extension l.t

abbrev pub decreases-loop-e : goal.decreases-loop-e
decreases-loop-e l = length l.line - l.t.at
