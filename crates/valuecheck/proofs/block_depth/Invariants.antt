-- The greatest depth of what a block holds
use Prim.Native.Nat.{◌+◌}
use Rattle.meaning.specs.Case.{member_word}
use Rattle.meaning.specs.Check.{depth}
use Rattle.laws.specs.Tests.{Growing}
use Rattle.valuecheck.proofs.block_depth.Given as goal

abbrev pub invariant-loop-i : goal.invariant-loop-i
invariant-loop-i l = Growing (λ j. depth l.s (member_word l.s (l.at + j) 1)) 512 l.i l.best
