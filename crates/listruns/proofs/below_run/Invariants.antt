-- Each word of a run is below a bound, a block at once by its greatest word
use Prim.Native.Nat.{◌+◌, ◌-◌}
use lib.Dec.{ltb}
use Rattle.meaning.specs.Case.{list}
use Rattle.laws.specs.Tests.{Passing}
use Rattle.listruns.proofs.Runs.{InLists}
use Rattle.listruns.proofs.below_run.Given as goal

abbrev pub invariant-loop-i : goal.invariant-loop-i
invariant-loop-i l = Passing (λ x. ltb (list l.s (l.first + x)) l.bound) l.items l.i × InLists l.s 1 l.first l.items

abbrev pub decreases-loop-i : goal.decreases-loop-i
decreases-loop-i l = l.items - l.i
