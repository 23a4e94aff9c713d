-- Tests over numbers and tables: what the other definitions are written in
use Rattle.std.specs.Prelude.{Bool, true, false, List, [], ◌∷◌, ℕ, zero, suc, max, leb}
use Rattle.std.proofs.Math.Option.{Option, none, some}
use Rattle.meaning.specs.Below.{made}

infixr 20 ◌and◌
infixr 15 ◌or◌
unfoldable pub ◌and◌ : Bool → Bool → Bool
true and b = b
false and b = false

unfoldable pub ◌or◌ : Bool → Bool → Bool
true or b = true
false or b = b

unfoldable pub choose : {A : Type 0} → Bool → A → A → A
choose true x y = x
choose false x y = y

unfoldable pub only_if : {A : Type 0} → Bool → A → Option A
only_if true x = some x
only_if false x = none

unfoldable pub is_some : {A : Type 0} → Option A → Bool
is_some none = false
is_some (some x) = true

-- the first, or the second where there is no first
unfoldable pub or_else : {A : Type 0} → Option A → Option A → Option A
or_else none b = b
or_else (some a) b = some a

-- of rules that hold or not, each with its refusal: the first broken one's
abbrev pub first_broken : {A : Type 0} → List (Bool × A) → Option A
first_broken [] = none
first_broken (rule ∷ rules) = choose rule.0 (first_broken rules) (some rule.1)

-- the entry under a number
unfoldable pub pick : {A : Type 0} → List A → ℕ → A → A
pick [] n other = other
pick (x ∷ xs) zero other = x
pick (x ∷ xs) (suc n) other = pick xs n other

-- every number below n passes
unfoldable pub all_below : ℕ → (ℕ → Bool) → Bool
all_below zero test = true
all_below (suc n) test = all_below n test and test n

-- number i comes after the one before it, if there is one
unfoldable pub rises : (ℕ → ℕ → Bool) → ℕ → Bool
rises before zero = true
rises before (suc i) = before i (suc i)

-- from low to high
abbrev pub within : ℕ → ℕ → ℕ → Bool
within low high n = leb low n and leb n high

-- the greatest of f below n, 0 for none
unfoldable pub greatest : ℕ → (ℕ → ℕ) → ℕ
greatest zero f = 0
greatest (suc n) f = max (greatest n f) (f n)

-- Records that hold others: record k holds `arity k` of them, `child k i` for i below that, and their numbers are lower
module _ (arity : ℕ → ℕ) (child : ℕ → ℕ → ℕ) where
  -- how many levels there are from k down: 1 for a leaf
  unfoldable pub levels : ℕ → ℕ
  levels = made 0 (λ of k. suc (greatest (arity k) (λ i. of (child k i))))

  -- k and all that is in it, at any depth, pass
  unfoldable pub throughout : (ℕ → Bool) → ℕ → Bool
  throughout test = made true (λ of k. test k and all_below (arity k) (λ i. of (child k i)))
