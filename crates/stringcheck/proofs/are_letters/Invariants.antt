-- A text is UTF-8: a letter after the other, to its end
use mathlib.Core.Path.{◌≡◌}
use Prim.Native.Nat.{◌≤◌, ◌-◌}
use lib.ListN.{length, drop}
use Rattle.meaning.specs.declared.Due.TheVariants.{Nothing}
use Rattle.meaning.specs.Text.{utf8}
use Rattle.stringcheck.proofs.are_letters.Given as goal

abbrev pub invariant-loop-i : goal.invariant-loop-i
invariant-loop-i l = (l.i ≤ length l.t) × (utf8 Nothing (drop l.i l.t) ≡ utf8 Nothing l.t)

abbrev pub decreases-loop-i : goal.decreases-loop-i
decreases-loop-i l = length l.t - l.i
