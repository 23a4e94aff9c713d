use Rattle.laws.specs.Tests.{Passing}
use Rattle.marking.specs.Runs.{word_of}
use Prim.Native.Nat.{◌-◌}
use Rattle.marking.proofs.word_run.Given as goal

abbrev pub invariant-loop-i : goal.invariant-loop-i
invariant-loop-i l = Passing (word_of l.marks l.names l.first) l.items l.i

abbrev pub decreases-loop-i : goal.decreases-loop-i
decreases-loop-i l = l.items - l.i
