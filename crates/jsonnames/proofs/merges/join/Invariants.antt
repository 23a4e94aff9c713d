use Prim.Native.Nat.{◌+◌}
use Rattle.jsonnames.proofs.Joins.{Joining}
use Rattle.jsonnames.proofs.merges.join.Given as goal

abbrev pub invariant-loop-j : goal.invariant-loop-j
invariant-loop-j l = Joining l.line l.initial.names l.names l.low l.mid l.high l.i l.j

abbrev pub decreases-loop-j : goal.decreases-loop-j
decreases-loop-j l = l.i + l.j
