-- The greatest value that a block of an object holds, or more than any where one of its names breaks the rule
use Prim.Native.Nat.{◌+◌}
use Rattle.meaning.specs.Case.{member_word}
use Rattle.laws.specs.Tests.{Passing, Growing}
use Rattle.valuecheck.specs.Blocks.{object_name}
use Rattle.valuecheck.proofs.object_top.Given as goal

abbrev pub invariant-loop-i : goal.invariant-loop-i
invariant-loop-i l = Passing (object_name l.s l.at) 512 l.i × Growing (λ j. member_word l.s (l.at + j) 1) 512 l.i l.top
