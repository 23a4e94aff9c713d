-- A run of entities, a block at once where a table marks it
use Prim.Native.Nat.{◌-◌}
use Rattle.meaning.specs.Check.{entity_item}
use Rattle.laws.specs.Tests.{Passing}
use Rattle.listruns.proofs.Runs.{InLists}
use Rattle.pointcheck.proofs.entity_run.Given as goal

abbrev pub invariant-loop-i : goal.invariant-loop-i
invariant-loop-i l = Passing (entity_item l.s l.first) l.items l.i × InLists l.s 3 l.first l.items

abbrev pub decreases-loop-i : goal.decreases-loop-i
decreases-loop-i l = l.items - l.i
