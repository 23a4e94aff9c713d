use Rattle.joining.proofs.Rules.{Turn}
use Rattle.std.proofs.Common.{◌-◌}
use Rattle.joining.proofs.join_from.Given as goal

abbrev pub invariant-loop-k : goal.invariant-loop-k
invariant-loop-k l = Turn l.s l.initial.order l.many l.order l.fresh l.places l.n l.k

abbrev pub decreases-loop-k : goal.decreases-loop-k
decreases-loop-k l = l.many - l.k
