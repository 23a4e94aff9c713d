use Prim.Native.Nat.{◌-◌}
use lib.ListN.{length}
use Rattle.jsontext.specs.Values.{text}
use Rattle.jsonparts.proofs.Items.{Listing}
use Rattle.jsonparts.proofs.texts.texts_at.Given as goal

abbrev pub invariant-loop-e : goal.invariant-loop-e
invariant-loop-e l = Listing text l.line l.at l.i

abbrev pub decreases-loop-e : goal.decreases-loop-e
decreases-loop-e l = length l.line - l.i
