-- Every item of an object passes, a block at once where what is kept of it says so
use Prim.Native.Nat.{◌-◌}
use Rattle.meaning.specs.Check.{object_item}
use Rattle.laws.specs.Tests.{Passing}
use Rattle.valuecheck.proofs.object_items.Given as goal

abbrev pub invariant-loop-i : goal.invariant-loop-i
invariant-loop-i l = Passing (object_item l.s l.v l.first) l.items l.i

abbrev pub decreases-loop-i : goal.decreases-loop-i
decreases-loop-i l = l.items - l.i
