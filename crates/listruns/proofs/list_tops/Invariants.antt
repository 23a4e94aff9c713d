-- The greatest word of each block, as a table filled from the front
use Prim.Native.Nat.{◌*◌, ◌+◌}
use Rattle.meaning.specs.Case.{list}
use Rattle.meaning.specs.Tests.{greatest}
use Rattle.stringcheck.specs.Tables.{Filling}
use Rattle.listruns.proofs.list_tops.Given as goal

abbrev pub invariant-loop-b : goal.invariant-loop-b
invariant-loop-b l = Filling 0 (λ b. greatest 1024 (λ j. list l.s (1024 * b + j))) 1024 l.b-end l.tops l.b
