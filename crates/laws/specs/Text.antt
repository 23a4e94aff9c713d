-- Laws of bytes: equal lists, and the strings' order
use Rattle.std.specs.Prelude.{◌≡◌, refl, Bool, true, false, List, [], ◌∷◌, ◌++◌, ℕ, zero, suc, ◌+◌, ◌-◌, ◌<◌, ltb, eqb}
use Rattle.std.proofs.Common.{◌∙◌, arith, ltb-true, eqb-true, lt-ltb, le-ltb, eq-eqb}
use Rattle.meaning.specs.Tests.{◌and◌, ◌or◌, rises}
use Rattle.meaning.specs.Text.{before}
use Rattle.meaning.specs.Equal.{same_list}
use Rattle.laws.specs.Tests.{both, pass, after}

-- ---- equal lists

pub same-list : (l m : List ℕ) → same_list l m ≡ true → l ≡ m
unfolding same_list
same-list [] [] e = refl
same-list [] (y ∷ m) e = cc
same-list (x ∷ l) [] e = cc
same-list (x ∷ l) (y ∷ m) e =
    let h = both (eqb x y) (same_list l m) e in
    cc (eqb-true x y h.0, same-list l m h.1)

pub self_same : (l : List ℕ) → same_list l l ≡ true
unfolding same_list
self_same [] = refl
self_same (x ∷ l) = pass (eq-eqb x x refl) (self_same l)

pub list_same : (l m : List ℕ) → l ≡ m → same_list l m ≡ true
list_same l m e = rw (← e) (self_same l)

pub not_same : (l m : List ℕ) → (l ≡ m → ⊥) → same_list l m ≡ false
not_same l m ne = go (same_list l m) refl
  where
    go : (b : Bool) → same_list l m ≡ b → same_list l m ≡ false
    go true e = absurd (ne (same-list l m e))
    go false e = e

pub not_equal : (l m : List ℕ) → same_list l m ≡ false → l ≡ m → ⊥
not_equal l m e q =
    let z : same_list l l ≡ false = rw (← q) at e in
    let y : ◌≡◌ {A = ℕ} 0 1 = cc (z, self_same l) in
    omega arith

pub same-behind : (a l m : List ℕ) → same_list (a ++ l) (a ++ m) ≡ same_list l m
unfolding same_list
same-behind [] l m = refl
same-behind (x ∷ a) l m = after (eq-eqb x x refl) ∙ same-behind a l m

-- ---- order

pub before-onward : (a b c : List ℕ) → before a b ≡ true → before b c ≡ true → before a c ≡ true
unfolding before ◌or◌ ◌and◌
before-onward [] [] c p q = q
before-onward [] (y ∷ b) [] p q = cc
before-onward [] (y ∷ b) (z ∷ c) p q = refl
before-onward (x ∷ a) [] c p q = cc
before-onward (x ∷ a) (y ∷ b) [] p q = cc
before-onward (x ∷ a) (y ∷ b) (z ∷ c) p q =
    go (ltb x y) (ltb y z) refl refl p q (before-onward a b c)
  where
    go : (s t : Bool) → ltb x y ≡ s → ltb y z ≡ t → (s or (eqb x y and before a b)) ≡ true → (t or (eqb y z and before b c)) ≡ true → (before a b ≡ true → before b c ≡ true → before a c ≡ true) → (ltb x z or (eqb x z and before a c)) ≡ true
    go true true es et p q rest = rw (lt-ltb x z (omega (arith, ltb-true x y es, ltb-true y z et))) refl
    go true false es et p q rest = rw (lt-ltb x z (omega (arith, ltb-true x y es, eqb-true y z (both (eqb y z) (before b c) q).0))) refl
    go false true es et p q rest = rw (lt-ltb x z (omega (arith, eqb-true x y (both (eqb x y) (before a b) p).0, ltb-true y z et))) refl
    go false false es et p q rest =
        let ex = eqb-true x y (both (eqb x y) (before a b) p).0 in
        let ey = eqb-true y z (both (eqb y z) (before b c) q).0 in
        rw (le-ltb x z (omega (arith, ex, ey)), eq-eqb x z (ex ∙ ey)) (rest (both (eqb x y) (before a b) p).1 (both (eqb y z) (before b c) q).1)

-- what begins with a string does not come before it
pub not-before : (a b : List ℕ) → before (a ++ b) a ≡ false
unfolding before ◌or◌ ◌and◌
not-before [] [] = refl
not-before [] (y ∷ b) = refl
not-before (x ∷ a) b = rw (le-ltb x x (omega arith), eq-eqb x x refl) (not-before a b)

-- where each comes after the one before it, each comes after all before it
module _ (before : ℕ → ℕ → Bool) (onward : (i j k : ℕ) → before i j ≡ true → before j k ≡ true → before i k ≡ true) (n : ℕ) (up : (i : ℕ) → i < n → rises before i ≡ true) where
  next : (i : ℕ) → suc i < n → before i (suc i) ≡ true
  unfolding rises
  next i h = up (suc i) h

  later : (i k : ℕ) → suc (i + k) < n → before i (suc (i + k)) ≡ true
  later i zero h = let z : i + 0 ≡ i = omega arith in rw z (next i (omega arith))
  later i (suc k) h =
      let z : i + suc k ≡ suc (i + k) = omega arith in
      rw z (onward i (suc (i + k)) (suc (suc (i + k))) (later i k (omega arith)) (next (suc (i + k)) (omega arith)))

  pub rising : (i j : ℕ) → i < j → j < n → before i j ≡ true
  rising i j h l = let z : suc (i + (j - suc i)) ≡ j = omega arith in rw z at (later i (j - suc i) (omega arith))

pub numbers-rise : (f : ℕ → ℕ) (n : ℕ) → ((i : ℕ) → i < n → rises (λ i j. ltb (f i) (f j)) i ≡ true) → (i j : ℕ) → i < j → j < n → f i < f j
numbers-rise f n up i j h l =
    ltb-true (f i) (f j) (rising (λ i j. ltb (f i) (f j)) onward n up i j h l)
  where
    onward : (i j k : ℕ) → ltb (f i) (f j) ≡ true → ltb (f j) (f k) ≡ true → ltb (f i) (f k) ≡ true
    onward i j k p q = lt-ltb (f i) (f k) (omega (arith, ltb-true (f i) (f j) p, ltb-true (f j) (f k) q))
