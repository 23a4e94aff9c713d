use Rattle.std.proofs.Common.{length}
use Rattle.calls.proofs.Given.{Under}
use Rattle.calls.proofs.checked.all_under.Given as goal

abbrev pub invariant-loop-x : goal.invariant-loop-x
invariant-loop-x l = Under l.vars l.binders (length l.binders) l.x-index
