-- A run of entities goes on by a whole block
use Rattle.std.specs.Prelude.{◌≡◌, true, false, List}
use Rattle.std.proofs.Math.Path.{refl}
use Prim.Native.Nat.{ℕ, suc, ◌+◌, ◌*◌, ◌≤◌}
use native.Mathlib.Omega.{arith}
use Rattle.meaning.specs.Tests.{all_below, rises}
use Rattle.meaning.specs.Check.{entity_item}
use Rattle.laws.specs.Tests.{both, pass}
use Rattle.valuecheck.specs.Laws.{run_more, run-stop}

module _ (s : List ℕ) (first i at : ℕ) (e : at ≡ first + 3 * i) where
  -- inside the block an item is the same, whether it is read from the run's start or from the block's
  inner : (j : ℕ) → entity_item s first (i + suc j) ≡ entity_item s at (suc j)
  unfolding entity_item rises
  inner j =
      let q : i + suc j ≡ suc (i + j) = omega arith in
      let here : first + 3 * suc (i + j) ≡ at + 3 * suc j = omega arith in
      let last : first + 3 * (i + j) ≡ at + 3 * j = omega arith in
      rw (q, here, last) refl

  opens : entity_item s first i ≡ true → entity_item s at 0 ≡ true
  unfolding entity_item rises
  opens h = let q : at + 3 * 0 ≡ first + 3 * i = omega arith in pass (rw q (both _ _ h).0) refl

  pub entities-more : all_below i (entity_item s first) ≡ true → entity_item s first i ≡ true → all_below 512 (entity_item s at) ≡ true → all_below (i + 512) (entity_item s first) ≡ true
  entities-more a h b = run_more (entity_item s first) (entity_item s at) i inner 512 a h b

  pub entities-stop : (items : ℕ) → i + 512 ≤ items → all_below 512 (entity_item s at) ≡ false → all_below items (entity_item s first) ≡ false
  entities-stop items l b = run-stop (entity_item s first) (entity_item s at) i inner items 512 l opens b
