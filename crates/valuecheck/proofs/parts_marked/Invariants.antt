-- All that a value holds is marked, a block at once where it is known
use Prim.Native.Nat.{◌-◌}
use lib.ListN.{get_or}
use mathlib.Core.Bool.{false}
use Rattle.meaning.specs.Check.{part_value}
use Rattle.valuecheck.proofs.Parts.{Marks}
use Rattle.valuecheck.proofs.parts_marked.Given as goal

abbrev pub invariant-loop-i : goal.invariant-loop-i
invariant-loop-i l = Marks l.s l.v l.first l.items (λ j. get_or l.marks (part_value l.s l.v j) false) l.marks l.blocks l.i

abbrev pub decreases-loop-i : goal.decreases-loop-i
decreases-loop-i l = l.items - l.i
