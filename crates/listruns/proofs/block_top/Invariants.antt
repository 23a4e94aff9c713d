-- The greatest word of a block
use Prim.Native.Nat.{◌+◌}
use Rattle.meaning.specs.Case.{list}
use Rattle.laws.specs.Tests.{Growing}
use Rattle.listruns.proofs.block_top.Given as goal

abbrev pub invariant-loop-i : goal.invariant-loop-i
invariant-loop-i l = Growing (λ j. list l.s (l.at + j)) 1024 l.i l.top
