-- The byte order from place i on: byte by byte, and by numbers of eight bytes
use mathlib.Core.Path.{◌≡◌, refl, sym, ◌∙◌, ap}
use mathlib.Core.Bool.{Bool, true, false}
use mathlib.Core.List.{List, [], ◌∷◌}
use Prim.Native.Nat.{ℕ, zero, suc, ◌≤◌, ◌<◌, ◌+◌, ◌-◌, ◌*◌, min}
use native.Mathlib.Omega.{arith}
use native.Mathlib.Numerals.{add-one}
use lib.Dec.{ltb, eqb}
use lib.ListN.{length, drop, get_or, drop_of_length-le, length-drop}
use lib.Seq.{drop-cons}
use borrow.Author.Tests.{lt-ltb, le-ltb, eq-eqb, ne_eqb, ltb-true, ltb-false, eqb-true, eqb-false}
use Rattle.meaning.specs.Text.{before}
use Rattle.meaning.specs.Tests.{◌and◌, ◌or◌}
use Rattle.stringcheck.specs.Eight.{eight_at, Eight}

both-more : (x y : List ℕ) (i : ℕ) → i < length x → i < length y → before (drop i x) (drop i y) ≡ (ltb (get_or x i 0) (get_or y i 0) or (eqb (get_or x i 0) (get_or y i 0) and before (drop (i + 1) x) (drop (i + 1) y)))
unfolding before
both-more x y i h k = rw (add-one i, drop-cons x i 0 h, drop-cons y i 0 k)

unlike : (x y : List ℕ) (i : ℕ) → i < length x → i < length y → (get_or x i 0 ≡ get_or y i 0 → ⊥) → ltb (get_or x i 0) (get_or y i 0) ≡ before (drop i x) (drop i y)
unfolding ◌or◌ ◌and◌
unlike x y i h k n = sym (both-more x y i h k ∙ rw (ne_eqb _ _ n) (first (ltb (get_or x i 0) (get_or y i 0))))
  where
    first : (p : Bool) → (p or false) ≡ p
    first true = refl
    first false = refl

alike : (x y : List ℕ) (i : ℕ) → i < length x → i < length y → get_or y i 0 ≤ get_or x i 0 → get_or x i 0 ≡ get_or y i 0 → before (drop i x) (drop i y) ≡ before (drop (i + 1) x) (drop (i + 1) y)
unfolding ◌or◌ ◌and◌
alike x y i h k l e = both-more x y i h k ∙ rw (le-ltb _ _ l, eq-eqb _ _ e)

before-none : (x : List ℕ) → before x [] ≡ false
unfolding before
before-none [] = refl
before-none (a ∷ x) = refl

at-end : (y : List ℕ) → before [] y ≡ ltb 0 (length y)
unfolding before
at-end [] = refl
at-end (b ∷ y) = sym (lt-ltb 0 (suc (length y)) (omega arith))

-- from where the shorter one ends
pub order_ends : (x y : List ℕ) {n : ℕ} → n ≡ min (length x) (length y) → ltb (length x) (length y) ≡ before (drop n x) (drop n y)
order_ends x y {n} e = go (ltb (length x) (length y)) refl
  where
    go : (t : Bool) → ltb (length x) (length y) ≡ t → ltb (length x) (length y) ≡ before (drop n x) (drop n y)
    go true q =
        let l : length x < length y = ltb-true _ _ q in
        rw (drop_of_length-le x {i = n} (omega arith)) (q ∙ sym (at-end (drop n y) ∙ lt-ltb 0 (length (drop n y)) (rw (length-drop n y) (omega arith))))
    go false q =
        let l : length y ≤ length x = ltb-false _ _ q in
        rw (drop_of_length-le y {i = n} (omega arith)) (q ∙ sym (before-none (drop n x)))

-- of a loop that has read i bytes of both, which are the same
module _ (x y : List ℕ) (i : ℕ) (is : before (drop i x) (drop i y) ≡ before x y) (h : i < length x) (k : i < length y) {a b : ℕ} (ea : a ≡ get_or x i 0) (eb : b ≡ get_or y i 0) where
  pub order_unlike : (a ≡ b → ⊥) → ltb a b ≡ before x y
  order_unlike n = rw (ea, eb) (unlike x y i h k (λ e. n (ea ∙ e ∙ sym eb)) ∙ is)

  pub order_same : {j : ℕ} → a ≡ b → j ≡ i + 1 → before (drop j x) (drop j y) ≡ before x y
  order_same e q = let same : get_or x i 0 ≡ get_or y i 0 = cc in rw q (sym (alike x y i h k (omega arith) same) ∙ is)

-- ---- the same bytes up to j

skip : (x y : List ℕ) (j : ℕ) → j ≤ length x → j ≤ length y → ((k : ℕ) → k < j → get_or x k 0 ≡ get_or y k 0) → before (drop j x) (drop j y) ≡ before x y
skip x y zero h k f = refl
skip x y (suc j) h k f =
    let e : get_or x j 0 ≡ get_or y j 0 = f j (omega arith) in
    rw (add-one j) at (sym (alike x y j (omega arith) (omega arith) (omega arith) e))
    ∙ skip x y j (omega arith) (omega arith) (λ i l. f i (omega arith))

-- ---- numbers of n bytes from place i on

record Numbers (x y : List ℕ) (i n v w : ℕ) : Type 0 where
  tells : before (drop i x) (drop i y) ≡ (ltb v w or (eqb v w and before (drop (i + n) x) (drop (i + n) y)))
  same : v ≡ w → (k : ℕ) → k < n → get_or x (i + k) 0 ≡ get_or y (i + k) 0

-- a last digit decides where the numbers before it are the same
digits : (a b v w : ℕ) (r : Bool) → a < 256 → b < 256 → (ltb (a + 256 * v) (b + 256 * w) or (eqb (a + 256 * v) (b + 256 * w) and r)) ≡ (ltb v w or (eqb v w and (ltb a b or (eqb a b and r))))
unfolding ◌or◌ ◌and◌
digits a b v w r ha hb = go (ltb v w) (eqb v w) (ltb a b) (eqb a b) refl refl refl refl
  where
    go : (p q s t : Bool) → ltb v w ≡ p → eqb v w ≡ q → ltb a b ≡ s → eqb a b ≡ t → (ltb (a + 256 * v) (b + 256 * w) or (eqb (a + 256 * v) (b + 256 * w) and r)) ≡ (p or (q and (s or (t and r))))
    go true q s t e f g h = rw (lt-ltb (a + 256 * v) (b + 256 * w) (omega (arith, ltb-true v w e)))
    go false false s t e f g h =
        let l : b + 256 * w < a + 256 * v = omega (arith, ltb-false v w e, eqb-false v w f) in
        rw (le-ltb (a + 256 * v) (b + 256 * w) (omega arith), ne_eqb (a + 256 * v) (b + 256 * w) (λ q. absurd (omega arith)))
    go false true true t e f g h = rw (lt-ltb (a + 256 * v) (b + 256 * w) (omega (arith, eqb-true v w f, ltb-true a b g)))
    go false true false true e f g h =
        let l : a + 256 * v ≡ b + 256 * w = omega (arith, eqb-true v w f, eqb-true a b h) in
        rw (le-ltb (a + 256 * v) (b + 256 * w) (omega arith), eq-eqb (a + 256 * v) (b + 256 * w) l)
    go false true false false e f g h =
        let l : b + 256 * w < a + 256 * v = omega (arith, eqb-true v w f, ltb-false a b g, eqb-false a b h) in
        rw (le-ltb (a + 256 * v) (b + 256 * w) (omega arith), ne_eqb (a + 256 * v) (b + 256 * w) (λ q. absurd (omega arith)))

module _ (x y : List ℕ) (i : ℕ) where
  numbers-one : i < length x → i < length y → Numbers x y i 1 (get_or x i 0) (get_or y i 0)
  numbers-one h k = record {
    tells = both-more x y i h k;
    same = λ e j l. let z : i + j ≡ i = omega arith in rw z e;
  }

  numbers_more : (n v w : ℕ) → i + n < length x → i + n < length y → get_or x (i + n) 0 < 256 → get_or y (i + n) 0 < 256 → Numbers x y i n v w → Numbers x y i (n + 1) (get_or x (i + n) 0 + 256 * v) (get_or y (i + n) 0 + 256 * w)
  unfolding ◌or◌ ◌and◌
  numbers_more n v w h k a b m = record {
    tells =
        let z : i + n + 1 ≡ i + (n + 1) = omega arith in
        m.tells
        ∙ ap (λ (r : Bool). ltb v w or (eqb v w and r)) (both-more x y (i + n) h k)
        ∙ sym (digits (get_or x (i + n) 0) (get_or y (i + n) 0) v w (before (drop (i + n + 1) x) (drop (i + n + 1) y)) a b)
        ∙ ap (λ (t : ℕ). ltb (get_or x (i + n) 0 + 256 * v) (get_or y (i + n) 0 + 256 * w) or (eqb (get_or x (i + n) 0 + 256 * v) (get_or y (i + n) 0 + 256 * w) and before (drop t x) (drop t y))) z;
    same = λ e j l. go e j l (ltb j n) refl;
  }
    where
      go : get_or x (i + n) 0 + 256 * v ≡ get_or y (i + n) 0 + 256 * w → (j : ℕ) → j < n + 1 → (t : Bool) → ltb j n ≡ t → get_or x (i + j) 0 ≡ get_or y (i + j) 0
      go e j l true t = m.same (omega arith) j (ltb-true j n t)
      go e j l false t =
          let z : i + j ≡ i + n = omega (arith, ltb-false j n t) in
          let d : get_or x (i + n) 0 ≡ get_or y (i + n) 0 = omega arith in
          rw z d

  eights : i + 8 ≤ length x → i + 8 ≤ length y → ((k : ℕ) → get_or x k 0 < 256) → ((k : ℕ) → get_or y k 0 < 256) → Numbers x y i 8 (eight_at x i) (eight_at y i)
  eights h k a b =
      numbers_more 7 _ _ (omega arith) (omega arith) (a (i + 7)) (b (i + 7))
      (numbers_more 6 _ _ (omega arith) (omega arith) (a (i + 6)) (b (i + 6))
      (numbers_more 5 _ _ (omega arith) (omega arith) (a (i + 5)) (b (i + 5))
      (numbers_more 4 _ _ (omega arith) (omega arith) (a (i + 4)) (b (i + 4))
      (numbers_more 3 _ _ (omega arith) (omega arith) (a (i + 3)) (b (i + 3))
      (numbers_more 2 _ _ (omega arith) (omega arith) (a (i + 2)) (b (i + 2))
      (numbers_more 1 _ _ (omega arith) (omega arith) (a (i + 1)) (b (i + 1))
      (numbers-one (omega arith) (omega arith))))))))

-- ---- eight bytes a turn

-- the first i bytes of both, up to n, are the same
pub record Alike (x y : List ℕ) (n i : ℕ) : Type 0 where
  pub low : i ≤ n
  pub is : (k : ℕ) → k < i → get_or x k 0 ≡ get_or y k 0

pub alike-none : {x y : List ℕ} {n : ℕ} → Alike x y n 0
alike-none = record { low = omega arith; is = λ k h. absurd (omega arith) }

module _ {x y : List ℕ} {n i at v w : ℕ} (few : n ≡ min (length x) (length y)) (a : Alike x y n i) (here : at ≡ min i (n - 8)) (h : Eight x at v) (k : Eight y at w) (l : 8 ≤ n) where
  compared : Numbers x y at 8 v w
  compared = rw (h.is, k.is) (eights x y at (omega arith) (omega arith) h.small k.small)

  pub alike-more : v ≡ w → Alike x y n (at + 8)
  alike-more e = record { low = omega arith; is = λ j t. go j t (ltb j at) refl }
    where
      go : (j : ℕ) → j < at + 8 → (t : Bool) → ltb j at ≡ t → get_or x j 0 ≡ get_or y j 0
      go j t true q = a.is j (omega (arith, ltb-true j at q))
      go j t false q =
          let z : at + (j - at) ≡ j = omega (arith, ltb-false j at q) in
          rw z at (compared.same e (j - at) (omega (arith, ltb-false j at q)))

  pub alike-not : (v ≡ w → ⊥) → ltb v w ≡ before x y
  unfolding ◌or◌ ◌and◌
  alike-not e =
      sym (rw (ne_eqb v w e) at compared.tells ∙ first (ltb v w))
      ∙ skip x y at (omega arith) (omega arith) (λ j t. a.is j (omega arith))
    where
      first : (p : Bool) → (p or false) ≡ p
      first true = refl
      first false = refl

pub alike-less : {n i at : ℕ} → at ≡ min i (n - 8) → 8 ≤ n → i < n → n - (at + 8) < n - i
alike-less few h l = omega arith

pub alike_all : {x y : List ℕ} {n i : ℕ} → n ≡ min (length x) (length y) → Alike x y n i → n ≤ i → ltb (length x) (length y) ≡ before x y
alike_all {x} {y} {n} {i} few a h = order_ends x y few ∙ skip x y n (omega arith) (omega arith) (λ k l. a.is k (omega arith))
