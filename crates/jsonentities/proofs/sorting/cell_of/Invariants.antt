use Prim.Native.Nat.{◌-◌}
use Rattle.jsonentities.proofs.Comparing.{Halving}
use Rattle.jsonentities.proofs.sorting.cell_of.Given as goal

abbrev pub invariant-loop-low : goal.invariant-loop-low
invariant-loop-low l = Halving l.line l.names l.end l.at l.low l.high

abbrev pub decreases-loop-low : goal.decreases-loop-low
decreases-loop-low l = l.high - l.low
