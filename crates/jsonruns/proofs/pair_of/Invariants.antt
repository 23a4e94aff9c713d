use Prim.Native.Nat.{◌-◌}
use lib.ListN.{length}
use Rattle.jsonruns.proofs.Pairs.{Pairing}
use Rattle.jsonruns.proofs.pair_of.Given as goal

abbrev pub invariant-loop-next : goal.invariant-loop-next
invariant-loop-next l = Pairing l.line l.at l.extension l.first l.second l.i

abbrev pub decreases-loop-next : goal.decreases-loop-next
decreases-loop-next l = length l.line - l.i
