-- All that a block holds is marked
use Prim.Native.Nat.{◌+◌}
use lib.ListN.{get_or}
use mathlib.Core.Bool.{false}
use Rattle.meaning.specs.Case.{member_word}
use Rattle.laws.specs.Tests.{Passing}
use Rattle.valuecheck.proofs.block_marked.Given as goal

abbrev pub invariant-loop-i : goal.invariant-loop-i
invariant-loop-i l = Passing (λ j. get_or l.marks (member_word l.s (l.at + j) 1) false) 512 l.i
