-- The greatest value that a block holds, or more than any where one of its members has a name
use Prim.Native.Nat.{◌+◌}
use lib.Dec.{eqb}
use Rattle.meaning.specs.Case.{member_word, nothing}
use Rattle.laws.specs.Tests.{Passing, Growing}
use Rattle.valuecheck.proofs.block_top.Given as goal

abbrev pub invariant-loop-i : goal.invariant-loop-i
invariant-loop-i l = Passing (λ j. eqb (member_word l.s (l.at + j) 0) nothing) 512 l.i × Growing (λ j. member_word l.s (l.at + j) 1) 512 l.i l.top
