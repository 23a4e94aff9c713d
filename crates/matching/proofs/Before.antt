-- The point before, by whether it is there and in the window
use mathlib.Core.Path.{◌≡◌, refl, sym, ap, ◌∙◌}
use mathlib.Core.Bool.{Bool}
use mathlib.Core.List.{List}
use Prim.Native.Nat.{ℕ, suc, ◌-◌, ◌≤◌}
use native.Mathlib.Omega.{arith}
use mir.Val.{to_z}
use mir.Syntax.{w64}
use Rattle.meaning.specs.declared.Interval.{Interval}
use Rattle.meaning.specs.Number.{seconds, in_window, window}
use Rattle.laws.specs.Window.{is_inside, inside_is}
use Rattle.meaning.specs.declared.Window.{Window}
use Rattle.meaning.specs.declared.Window.TheVariants.{Inside, TooOld, Later}
use Rattle.meaning.specs.Case.{point_at}
use Rattle.std.specs.Prelude.{◌⊎◌, Option as Answer, Some, None}
use Rattle.std.proofs.Common.{inl, inr}
use Rattle.matching.specs.Asking.{at_if, point_before}

module _ (s : List ℕ) (within : Interval) (i : ℕ) where
  pub none_before : {r : Answer ℕ} → r ≡ None → (1 ≤ i → ⊥) → r ≡ point_before s within i
  unfolding point_before
  none_before e low = let z : 0 ≡ i = omega arith in e ∙ ap (point_before s within) z

step_back : (s : List ℕ) (within : Interval) (j : ℕ) → point_before s within (suc j) ≡ at_if (in_window (seconds within) (point_at s (suc j)).time (point_at s j).time) j
unfolding point_before
step_back s within j = refl

module _ (s : List ℕ) (within : Interval) (i j span here then : ℕ) {w : Window} (k : (1 ≤ i) × (j ≡ i - 1)) (es : to_z w64 span ≡ seconds within) (eh : to_z w64 here ≡ (point_at s i).time) (et : to_z w64 then ≡ (point_at s j).time) (ew : w ≡ window (to_z w64 span) (to_z w64 here) (to_z w64 then)) where
  before-is : {y : Bool} → is_inside w ≡ y → at_if y j ≡ point_before s within i
  before-is {y} t =
      let up : i ≡ suc j = omega (arith, k.0, k.1) in
      let in_w : y ≡ in_window (to_z w64 span) (to_z w64 here) (to_z w64 then) = sym t ∙ ap is_inside ew ∙ inside_is (to_z w64 span) (to_z w64 here) (to_z w64 then) in
      let same : in_window (seconds within) (point_at s (suc j)).time (point_at s j).time ≡ y = cc (up, es, eh, et, in_w) in
      sym (ap (point_before s within) up ∙ step_back s within j ∙ ap (λ (y : Bool). at_if y j) same)

  pub one-before : w ≡ Inside → Some j ≡ point_before s within i
  unfolding at_if is_inside
  one-before t = before-is (ap is_inside t)

  pub none-inside : (w ≡ TooOld) ⊎ (w ≡ Later) → None ≡ point_before s within i
  unfolding at_if is_inside
  none-inside (inl t) = before-is (ap is_inside t)
  none-inside (inr t) = before-is (ap is_inside t)
