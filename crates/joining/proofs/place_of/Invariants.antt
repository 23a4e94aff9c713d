use Rattle.joining.proofs.Rules.{Between}
use Rattle.std.proofs.Common.{◌-◌}
use Rattle.joining.proofs.place_of.Given as goal

abbrev pub invariant-loop-low : goal.invariant-loop-low
invariant-loop-low l = Between l.s l.order l.n l.x l.low l.high

abbrev pub decreases-loop-low : goal.decreases-loop-low
decreases-loop-low l = l.high - l.low
