-- A byte does not occur in a text: of the bytes read so far, and of the others
use mathlib.Core.Path.{◌≡◌}
use lib.ListN.{drop}
use Rattle.meaning.specs.Tests.{◌and◌}
use Rattle.meaning.specs.Text.{free}
use Rattle.stringcheck.proofs.is_free.Given as goal

abbrev pub invariant-loop-x : goal.invariant-loop-x
invariant-loop-x l = free l.b l.t ≡ (l.none and free l.b (drop l.x-index l.t))
