use Rattle.std.proofs.Common.{rules}
use mathlib.Core.Path.{◌≡◌, refl, sym, ◌∙◌, ap}
use mathlib.Core.Bool.{Bool, not}
use mathlib.Core.List.{List}
use Prim.Native.Nat.{ℕ, ◌≤◌, ◌<◌, ◌+◌}
use native.Mathlib.Numerals.{add-one}
use lib.Dec.{eqb}
use lib.ListN.{length, get_or, drop, drop_of_length-le}
use lib.Seq.{drop-cons}
use Rattle.meaning.specs.Tests.{◌and◌}
use Rattle.meaning.specs.Text.{free}
use Rattle.laws.specs.Tests.{and_assoc, and-true}
use Rattle.stringcheck.specs.Ranges.{and-is}
use Rattle.stringcheck.proofs.is_free.Goals as goal

peel : (t : List ℕ) (b i : ℕ) → i < length t → free b (drop i t) ≡ (not (eqb (get_or t i 0) b) and free b (drop (i + 1) t))
unfolding free
peel t b i h = rw (add-one i, drop-cons t i 0 h)

module _ (t : List ℕ) (b i : ℕ) (none : Bool) (is : free b t ≡ (none and free b (drop i t))) where
  more : {r : Bool} → r ≡ (none and not (eqb (get_or t i 0) b)) → i < length t → free b t ≡ (r and free b (drop (i + 1) t))
  more e h =
      is ∙ ap (λ (x : Bool). none and x) (peel t b i h)
      ∙ sym (and_assoc none (not (eqb (get_or t i 0) b)) (free b (drop (i + 1) t)))
      ∙ ap (λ (x : Bool). x and free b (drop (i + 1) t)) (sym e)

  ends : length t ≤ i → none ≡ free b t
  unfolding free
  ends h = sym (rw (drop_of_length-le t h) at is ∙ and-true none)

pub loop-x-init : goal.loop-x-init
unfolding ◌and◌
loop-x-init c = refl

pub loop-x-preserved : goal.loop-x-preserved
loop-x-preserved c = search (more, and-is, rules)

pub returns : goal.returns
returns c = search (ends, rules)
