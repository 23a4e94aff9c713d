use Prim.Native.Nat.{◌-◌}
use lib.ListN.{length}
use Rattle.jsonread.specs.Spelling.{Fitting}
use Rattle.jsonread.proofs.names.same_word.Given as goal

abbrev pub invariant-loop-i : goal.invariant-loop-i
invariant-loop-i l = Fitting l.line l.at l.word l.i

abbrev pub decreases-loop-i : goal.decreases-loop-i
decreases-loop-i l = length l.word - l.i
