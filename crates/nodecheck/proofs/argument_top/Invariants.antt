-- The greatest term of a block of arguments, or more than any where one breaks its own rule
use Prim.Native.Nat.{◌*◌, ◌+◌}
use Rattle.meaning.specs.Case.{list}
use Rattle.laws.specs.Tests.{Passing, Growing}
use Rattle.nodecheck.specs.Terms.{argument_own}
use Rattle.nodecheck.proofs.argument_top.Given as goal

abbrev pub invariant-loop-i : goal.invariant-loop-i
invariant-loop-i l = Passing (λ j. argument_own l.s (l.at + 3 * j)) 128 l.i × Growing (λ j. list l.s (l.at + 3 * j + 2)) 128 l.i l.top
