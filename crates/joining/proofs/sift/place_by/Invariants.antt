use Rattle.std.proofs.Common.{◌≤◌}
use Rattle.joining.proofs.sift.place_by.Given as goal

abbrev pub invariant-loop : goal.invariant-loop
invariant-loop l = l.at ≤ 16384
