-- The greatest height of a Predicate's terms
use Prim.Native.Nat.{◌*◌, ◌+◌, ◌<◌}
use lib.ListN.{get_or}
use Rattle.meaning.specs.Case.{list}
use Rattle.laws.specs.Tests.{Growing}
use Rattle.nodecheck.proofs.argument_height.Given as goal

abbrev pub invariant-loop-i : goal.invariant-loop-i
invariant-loop-i l = Growing (λ k. get_or l.heights (list l.s (l.first + 3 * k + 2)) 0) l.i-end l.i l.best × (l.i-end < 4294967296) × (l.first < 4294967296)
