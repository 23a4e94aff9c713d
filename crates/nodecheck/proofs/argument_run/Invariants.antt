-- A Predicate's arguments, a block at once by its top
use Prim.Native.Nat.{◌*◌, ◌+◌, ◌-◌}
use Rattle.meaning.specs.Check.{argument_rule}
use Rattle.laws.specs.Tests.{Passing}
use Rattle.listruns.proofs.Runs.{InLists}
use Rattle.nodecheck.proofs.argument_run.Given as goal

abbrev pub invariant-loop-i : goal.invariant-loop-i
invariant-loop-i l = Passing (λ k. argument_rule l.s l.n (l.first + 3 * k)) l.items l.i × InLists l.s 3 l.first l.items

abbrev pub decreases-loop-i : goal.decreases-loop-i
decreases-loop-i l = l.items - l.i
