-- Blocks of 128 arguments of three words, as the loops over them read them
use mathlib.Core.Path.{◌≡◌, refl, ◌∙◌, ap}
use mathlib.Core.Bool.{true, false}
use mathlib.Core.List.{List}
use Prim.Native.Nat.{ℕ, ◌+◌, ◌*◌, ◌-◌, ◌/◌, ◌%◌, ◌<◌, ◌≤◌}
use native.Mathlib.Omega.{arith}
use lib.Dec.{ltb}
use lib.ListN.{get_or}
use borrow.Author.Tests.{ltb-false}
use Rattle.meaning.specs.Case.{lists}
use Rattle.meaning.specs.Check.{bodies, mosts}
use Rattle.laws.specs.Tests.{Filled}
use Rattle.stringcheck.specs.Mosts.{list-most}
use Rattle.listruns.proofs.Runs.{InLists}
use Rattle.nodecheck.specs.Terms.{argument_start}

module _ (s : List ℕ) {k w : ℕ} (ek : k ≡ lists s) (ew : w ≡ k) where
  pub blocks-few : bodies s ≡ true → mosts s ≡ true → 3 * (w / 384) ≤ 8192
  blocks-few b m = omega (arith, list-most s m b)

  pub blocks-all : 3 * (w / 384) ≡ 3 * (lists s / 384)
  blocks-all = rw (ew, ek) refl

module _ {s : List ℕ} {first items i f j : ℕ} (r : InLists s 3 first items) (ef : f ≡ first) (ej : j ≡ i) (lt : i < items) (a : (f + 3 * j) % 384 < 3) (w : ltb (items - i) 128 ≡ false) where
  pub block_in : 3 * ((f + 3 * j) / 384) + (f + 3 * j) % 384 < 8192
  block_in = omega (arith, ltb-false (items - i) 128 w, r.inside, r.few)

  pub block-fits : i + 128 ≤ items
  block-fits = omega (arith, ltb-false (items - i) 128 w)

  pub block_at : {A : Type 0} {other : A} (g : ℕ → A) {table : List A} → Filled other (λ k. g (argument_start k)) table (3 * (lists s / 384)) → get_or table (3 * ((f + 3 * j) / 384) + (f + 3 * j) % 384) other ≡ g (f + 3 * j)
  block_at g t =
      let here : argument_start (3 * ((f + 3 * j) / 384) + (f + 3 * j) % 384) ≡ f + 3 * j = omega arith in
      t.at _ (omega (arith, ltb-false (items - i) 128 w, r.inside)) ∙ ap g here
