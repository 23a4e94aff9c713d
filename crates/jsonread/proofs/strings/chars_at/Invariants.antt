use Prim.Native.Nat.{◌-◌}
use lib.ListN.{length}
use Rattle.jsonread.proofs.Chars.{Reads}
use Rattle.jsonread.proofs.strings.chars_at.Given as goal

abbrev pub invariant-loop-i : goal.invariant-loop-i
invariant-loop-i l = Reads l.line l.at l.d l.i

abbrev pub decreases-loop-i : goal.decreases-loop-i
decreases-loop-i l = length l.line - l.i
