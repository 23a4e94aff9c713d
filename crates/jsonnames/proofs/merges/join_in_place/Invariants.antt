use Rattle.jsonnames.proofs.Grows.{Putting}
use Rattle.jsonnames.proofs.merges.join_in_place.Given as goal

abbrev pub invariant-loop-j : goal.invariant-loop-j
invariant-loop-j l = Putting l.line l.initial.names l.names l.low l.mid l.high l.j
