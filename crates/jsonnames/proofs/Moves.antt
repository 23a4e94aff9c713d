-- A place is stored among others, which move up
use mathlib.Core.Path.{◌≡◌, refl, sym, ap, ◌∙◌}
use mathlib.Core.Bool.{Bool, true, false}
use mathlib.Core.List.{List}
use Prim.Native.Nat.{ℕ, ◌+◌, ◌-◌, ◌<◌, ◌≤◌}
use native.Mathlib.Omega.{arith}
use lib.Dec.{ltb}
use lib.ListN.{length, get_or, set, length-set}
use lib.Seq.{get_or-set_same, get_or-set_other}
use borrow.Author.Tests.{ltb-true, ltb-false}
use Rattle.jsonnames.specs.Sorted.{Inserted}

-- those from i on moved up, those below i as they were
pub record Moving (cell end : ℕ) (names after : List ℕ) (i : ℕ) : Type 0 where
  pub from : cell ≤ i
  pub to : i ≤ end
  pub room : end < length names
  pub long : length after ≡ length names
  pub below : (k : ℕ) → k ≤ i → get_or after k 0 ≡ get_or names k 0
  pub moved : (k : ℕ) → i ≤ k → k < end → get_or after (k + 1) 0 ≡ get_or names k 0
  pub beyond : (k : ℕ) → end < k → get_or after k 0 ≡ get_or names k 0

pub move_start : {cell end : ℕ} {names : List ℕ} → cell ≤ end → end < length names → Moving cell end names names end
move_start h l = record { from = h; to = omega arith; room = l; long = refl; below = λ k a. refl; moved = λ k a b. absurd (omega arith); beyond = λ k a. refl }

module _ {cell end i : ℕ} {names after : List ℕ} (g : Moving cell end names after i) where
  pub move-cell : i < length after
  move-cell = omega (arith, g.to, g.room, g.long)

  pub move-lower : cell < i → i - 1 < length after
  move-lower h = omega (arith, g.to, g.room, g.long)

  pub move-done : (at : ℕ) → i ≤ cell → Inserted cell end at names (set after cell at)
  move-done at h =
      let e : i ≡ cell = omega (arith, g.from) in
      let l : cell < length after = omega (arith, g.to, g.room, g.long) in
      record {
        long = length-set after cell at ∙ g.long;
        below = λ k a. get_or-set_other after cell k at 0 (omega arith) ∙ g.below k (omega arith);
        new = get_or-set_same after cell at 0 l;
        moved = λ k a b. get_or-set_other after cell (k + 1) at 0 (omega arith) ∙ g.moved k (omega arith) b;
        beyond = λ k a. get_or-set_other after cell k at 0 (omega (arith, g.to)) ∙ g.beyond k a;
      }

  pub move-on : cell < i → Moving cell end names (set after i (get_or after (i - 1) 0)) (i - 1)
  move-on h =
      record {
        from = omega arith;
        to = omega (arith, g.to);
        room = g.room;
        long = length-set after i (get_or after (i - 1) 0) ∙ g.long;
        below = λ k a. get_or-set_other after i k (get_or after (i - 1) 0) 0 (omega arith) ∙ g.below k (omega arith);
        moved = λ k a b. go k a b (ltb k i) refl;
        beyond = λ k a. get_or-set_other after i k (get_or after (i - 1) 0) 0 (omega (arith, g.to)) ∙ g.beyond k a;
      }
    where
      go : (k : ℕ) → i - 1 ≤ k → k < end → (x : Bool) → ltb k i ≡ x → get_or (set after i (get_or after (i - 1) 0)) (k + 1) 0 ≡ get_or names k 0
      go k a b true q =
          let e : k ≡ i - 1 = omega (arith, ltb-true k i q) in
          let d : k + 1 ≡ i = omega arith in
          ap (λ (j : ℕ). get_or (set after i (get_or after (i - 1) 0)) j 0) d ∙ get_or-set_same after i (get_or after (i - 1) 0) 0 move-cell ∙ g.below (i - 1) (omega arith) ∙ ap (λ (j : ℕ). get_or names j 0) (sym e)
      go k a b false q = get_or-set_other after i (k + 1) (get_or after (i - 1) 0) 0 (omega (arith, ltb-false k i q)) ∙ g.moved k (omega (arith, ltb-false k i q)) b
