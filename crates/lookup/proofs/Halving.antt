-- What stands under a number in a run whose numbers rise: the half that can hold it
use mathlib.Core.Path.{◌≡◌, refl, sym, ◌∙◌, ap}
use mathlib.Core.Bool.{Bool, true, false}
use mathlib.Core.Option.{Option, none, some}
use Prim.Native.Nat.{ℕ, zero, suc, ◌+◌, ◌-◌, ◌/◌, ◌<◌, ◌≤◌}
use native.Mathlib.Omega.{arith}
use lib.Dec.{eqb, ltb}
use borrow.Author.Tests.{eq-eqb, ne_eqb, ltb-true, ltb-false}

-- a run by the number and the value at each place: what is under n from place `at` on, `left` places long
unfoldable pub under : (ℕ → ℕ) → (ℕ → ℕ) → ℕ → ℕ → ℕ → Option ℕ
under key value n at zero = none
under key value n at (suc left) = elim (eqb n (key at)) [ true ↦ some (value at) | false ↦ under key value n (at + 1) left ]

-- a turn of it
pub alike : {a b : Bool} {x y : ℕ} {o r : Option ℕ} → a ≡ b → x ≡ y → o ≡ r → ◌≡◌ {A = Option ℕ} (elim a as (λ a. Option ℕ) [ true ↦ some x | false ↦ o ]) (elim b as (λ b. Option ℕ) [ true ↦ some y | false ↦ r ])
alike {a} {b} {x} {y} {o} {r} e f g =
    ap (λ (t : Bool). elim t as (λ t. Option ℕ) [ true ↦ some x | false ↦ o ]) e ∙ ap (λ (n : ℕ). elim b as (λ b. Option ℕ) [ true ↦ some n | false ↦ o ]) f ∙ ap (λ (q : Option ℕ). elim b as (λ b. Option ℕ) [ true ↦ some y | false ↦ q ]) g

module _ (key value : ℕ → ℕ) (n : ℕ) where
  under-by : (at left : ℕ) (t : Bool) → eqb n (key at) ≡ t → under key value n at (suc left) ≡ elim t as (λ t. Option ℕ) [ true ↦ some (value at) | false ↦ under key value n (at + 1) left ]
  unfolding under
  under-by at left t e = alike e refl refl

  -- places with other numbers may go, before it and behind it
  passed : (half at left : ℕ) → ((m : ℕ) → at ≤ m → m < at + half → n ≡ key m → ⊥) → under key value n at (half + left) ≡ under key value n (at + half) left
  passed zero at left other = let z : at + 0 ≡ at = omega arith in let y : 0 + left ≡ left = omega arith in rw (z, y) refl
  passed (suc half) at left other =
      let z : at + suc half ≡ at + 1 + half = omega arith in
      let y : suc half + left ≡ suc (half + left) = omega arith in
      rw (z, y) (under-by at (half + left) false (ne_eqb _ _ (other at (omega arith) (omega arith))) ∙ passed half (at + 1) left (λ m low high. other m (omega arith) (omega arith)))

  left-off : (half at left : ℕ) → ((m : ℕ) → at + half ≤ m → m < at + half + left → n ≡ key m → ⊥) → under key value n at (half + left) ≡ under key value n at half
  unfolding under
  left-off zero at left other =
      let z : 0 + left ≡ left + 0 = omega arith in
      ap (under key value n at) z ∙ passed left at 0 (λ m low high. other m (omega arith) (omega arith))
  left-off (suc half) at left other =
      let z : suc half + left ≡ suc (half + left) = omega arith in
      ap (under key value n at) z ∙ alike {a = eqb n (key at)} {x = value at} refl refl (left-off half (at + 1) left (λ m low high. other m (omega arith) (omega arith)))

-- ---- what is under n, if anything is, is in the part left

pub record Within (key value : ℕ → ℕ) (n first count at left : ℕ) : Type 0 where
  pub rise : (i j : ℕ) → first ≤ i → i < j → j < first + count → key i < key j
  pub low : first ≤ at
  pub high : at + left ≤ first + count
  pub rest : under key value n at left ≡ under key value n first count

pub within_all : (key value : ℕ → ℕ) (n first count : ℕ) → ((i j : ℕ) → first ≤ i → i < j → j < first + count → key i < key j) → Within key value n first count first count
within_all key value n first count up = record { rise = up; low = omega arith; high = omega arith; rest = refl }

module _ {key value : ℕ → ℕ} {n first count at left : ℕ} (g : Within key value n first count at left) where
  pub nothing-under : left ≤ 0 → under key value n first count ≡ none
  unfolding under
  nothing-under h =
      let z : left ≡ 0 = omega arith in
      sym g.rest ∙ ap (under key value n at) z

  -- something is left
  module _ (k : ℕ) (more : k < left) where
    lower : (m : ℕ) → at ≤ m → m < at + left / 2 → key m < key (at + left / 2)
    lower m l h = g.rise m (at + left / 2) (omega (arith, g.low)) h (omega (arith, g.high))

    higher : (m : ℕ) → at + left / 2 < m → m < at + left → key (at + left / 2) < key m
    higher m h l = g.rise (at + left / 2) m (omega (arith, g.low)) h (omega (arith, g.high))

    pub lower-part : n < key (at + left / 2) → Within key value n first count at (left / 2)
    lower-part less =
        let z : left / 2 + (left - left / 2) ≡ left = omega arith in
        record {
          rise = g.rise;
          low = g.low;
          high = omega (arith, g.high);
          rest = sym (left-off key value n (left / 2) at (left - left / 2) other) ∙ ap (under key value n at) z ∙ g.rest;
        }
      where
        other : (m : ℕ) → at + left / 2 ≤ m → m < at + left / 2 + (left - left / 2) → n ≡ key m → ⊥
        other m l h e = go (ltb (at + left / 2) m) refl
          where
            go : (b : Bool) → ltb (at + left / 2) m ≡ b → ⊥
            go true q = omega (arith, higher m (ltb-true (at + left / 2) m q) (omega arith))
            go false q =
                let z : m ≡ at + left / 2 = omega (arith, ltb-false (at + left / 2) m q) in
                let y : n ≡ key (at + left / 2) = e ∙ ap key z in
                omega arith

    pub upper-part : key (at + left / 2) ≤ n → (n ≡ key (at + left / 2) → ⊥) → Within key value n first count (at + left / 2 + 1) (left - left / 2 - 1)
    upper-part most ne =
        let z : left / 2 + 1 + (left - left / 2 - 1) ≡ left = omega arith in
        let y : at + left / 2 + 1 ≡ at + (left / 2 + 1) = omega arith in
        record {
          rise = g.rise;
          low = omega (arith, g.low);
          high = omega (arith, g.high);
          rest = rw y (sym (passed key value n (left / 2 + 1) at (left - left / 2 - 1) other) ∙ ap (under key value n at) z ∙ g.rest);
        }
      where
        other : (m : ℕ) → at ≤ m → m < at + (left / 2 + 1) → n ≡ key m → ⊥
        other m l h e = go (ltb m (at + left / 2)) refl
          where
            go : (b : Bool) → ltb m (at + left / 2) ≡ b → ⊥
            go true q = omega (arith, lower m l (ltb-true m (at + left / 2) q))
            go false q =
                let z : m ≡ at + left / 2 = omega (arith, ltb-false m (at + left / 2) q) in
                ne (e ∙ ap key z)

    pub middle-under : n ≡ key (at + left / 2) → under key value n first count ≡ some (value (at + left / 2))
    middle-under e =
        let z : left ≡ left / 2 + suc (left - left / 2 - 1) = omega arith in
        sym g.rest ∙ ap (under key value n at) z
        ∙ passed key value n (left / 2) at (suc (left - left / 2 - 1)) (λ m l h e'. omega (arith, lower m l h))
        ∙ under-by key value n (at + left / 2) (left - left / 2 - 1) true (eq-eqb _ _ e)
