-- Every item of an array passes, a block at once where what is kept of it says so
use Prim.Native.Nat.{◌-◌}
use Rattle.meaning.specs.Check.{array_item}
use Rattle.laws.specs.Tests.{Passing}
use Rattle.valuecheck.proofs.array_items.Given as goal

abbrev pub invariant-loop-i : goal.invariant-loop-i
invariant-loop-i l = Passing (array_item l.s l.v l.first) l.items l.i

abbrev pub decreases-loop-i : goal.decreases-loop-i
decreases-loop-i l = l.items - l.i
