-- The order of names
use Rattle.std.specs.declared.cmp.Ordering.TheVariants.{Less, Equal, Greater}
use mathlib.Core.Path.{◌≡◌, refl, sym, ◌∙◌}
use mathlib.Core.Bool.{Bool, true, false}
use mathlib.Core.List.{List, [], ◌∷◌}
use Prim.Native.Nat.{ℕ, ◌<◌}
use native.Mathlib.Omega.{arith}
use lib.Dec.{ltb}
use borrow.Author.Tests.{lt-ltb, le-ltb, ltb-true, ltb-false}
use Rattle.laws.specs.Tests.{yes, no as otherwise}
use Rattle.jsonread.specs.Spelling.{order_of}

-- the order of two bytes, and what follows them
data Bytes (a b : ℕ) : Type 0 where
  lower : a < b → Bytes a b
  equal : a ≡ b → Bytes a b
  higher : b < a → Bytes a b

bytes : (a b : ℕ) → Bytes a b
bytes a b =
    go (ltb a b) (ltb b a) refl refl
  where
    go : (x y : Bool) → ltb a b ≡ x → ltb b a ≡ y → Bytes a b
    go true y p q = lower (ltb-true a b p)
    go false true p q = higher (ltb-true b a q)
    go false false p q = equal (omega (arith, ltb-false a b p, ltb-false b a q))

on-lower : (a b : ℕ) (s t : List ℕ) → a < b → order_of (a ∷ s) (b ∷ t) ≡ Less
unfolding order_of
on-lower a b s t h = yes _ (lt-ltb a b h)

on-higher : (a b : ℕ) (s t : List ℕ) → b < a → order_of (a ∷ s) (b ∷ t) ≡ Greater
unfolding order_of
on-higher a b s t h = otherwise _ (le-ltb a b (omega arith)) (yes _ (lt-ltb b a h))

on-equal : (a b : ℕ) (s t : List ℕ) → a ≡ b → order_of (a ∷ s) (b ∷ t) ≡ order_of s t
unfolding order_of
on-equal a b s t e = otherwise _ (le-ltb a b (omega arith)) (otherwise _ (le-ltb b a (omega arith)) refl)

less-same : {A : Type 0} → Less ≡ Equal → A
less-same e = absurd (let z : ◌≡◌ {A = ℕ} 0 1 = cc in omega arith)

less-more : {A : Type 0} → Less ≡ Greater → A
less-more e = absurd (let z : ◌≡◌ {A = ℕ} 0 1 = cc in omega arith)

more_same : {A : Type 0} → Greater ≡ Equal → A
more_same e = absurd (let z : ◌≡◌ {A = ℕ} 0 1 = cc in omega arith)

pub order-equal : (s t : List ℕ) → order_of s t ≡ Equal → s ≡ t
unfolding order_of
order-equal [] [] e = refl
order-equal [] (b ∷ t) e = less-same e
order-equal (a ∷ s) [] e = more_same e
order-equal (a ∷ s) (b ∷ t) e =
    elim (bytes a b) [
      | lower h ↦ less-same (sym (on-lower a b s t h) ∙ e)
      | higher h ↦ more_same (sym (on-higher a b s t h) ∙ e)
      | equal h ↦ let k : s ≡ t = order-equal s t (sym (on-equal a b s t h) ∙ e) in cc
    ]

pub order_flip : (s t : List ℕ) → order_of s t ≡ Greater → order_of t s ≡ Less
unfolding order_of
order_flip [] [] e = more_same (sym e)
order_flip [] (b ∷ t) e = less-more e
order_flip (a ∷ s) [] e = refl
order_flip (a ∷ s) (b ∷ t) e =
    elim (bytes a b) [
      | lower h ↦ less-more (sym (on-lower a b s t h) ∙ e)
      | higher h ↦ on-lower b a t s h
      | equal h ↦ on-equal b a t s (sym h) ∙ order_flip s t (sym (on-equal a b s t h) ∙ e)
    ]

pub order_self : (s : List ℕ) → order_of s s ≡ Less → ⊥
unfolding order_of
order_self [] e = less-same (sym e)
order_self (a ∷ s) e = order_self s (sym (on-equal a a s s refl) ∙ e)

pub order-on : (s t u : List ℕ) → order_of s t ≡ Less → order_of t u ≡ Less → order_of s u ≡ Less
unfolding order_of
order-on [] [] u e f = less-same (sym e)
order-on [] (b ∷ t) [] e f = less-more (sym f)
order-on [] (b ∷ t) (d ∷ u) e f = refl
order-on (a ∷ s) [] u e f = less-more (sym e)
order-on (a ∷ s) (b ∷ t) [] e f = less-more (sym f)
order-on (a ∷ s) (b ∷ t) (d ∷ u) e f =
    elim (bytes a b) [
      | higher h ↦ less-more (sym e ∙ on-higher a b s t h)
      | lower h ↦ elim (bytes b d) [
        | higher k ↦ less-more (sym f ∙ on-higher b d t u k)
        | lower k ↦ on-lower a d s u (omega arith)
        | equal k ↦ on-lower a d s u (omega arith)
      ]
      | equal h ↦ elim (bytes b d) [
        | higher k ↦ less-more (sym f ∙ on-higher b d t u k)
        | lower k ↦ on-lower a d s u (omega arith)
        | equal k ↦ on-equal a d s u (h ∙ k) ∙ order-on s t u (sym (on-equal a b s t h) ∙ e) (sym (on-equal b d t u k) ∙ f)
      ]
    ]
