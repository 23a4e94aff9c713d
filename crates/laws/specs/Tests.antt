-- Laws of the tests: of a rule of several parts, of a loop over records, of a table filled from the front, and that what is made of a record is made of its children's
use Rattle.std.specs.Prelude.{◌≡◌, refl, Bool, false, not, List, ltb, length, get_or, set}
use Rattle.std.proofs.Common.{sym, ◌∙◌, subst, arith, add-one, get_or-set_same, get_or-set_other, ltb-true, ltb-false}
use Rattle.std.proofs.Math.Path.{ap}
use Rattle.std.proofs.Math.Bool.{true}
use Rattle.std.proofs.Math.Option.{Option, none, some}
use Prim.Native.Nat.{ℕ, zero, suc, ◌+◌, ◌<◌, ◌≤◌, max}
use Rattle.std.proofs.lemmas.Bool.{not-true, not-false}
use Rattle.laws.specs.Below.{made-is}
use Rattle.meaning.specs.Tests.{◌and◌, choose, all_below, greatest, levels, throughout}

pub both : (a b : Bool) → (a and b) ≡ true → (a ≡ true) × (b ≡ true)
unfolding ◌and◌
both true true e = (refl, refl)
both true false e = (refl, e)
both false b e = (e, cc)

pub and-false : (a : Bool) → (a and false) ≡ false
unfolding ◌and◌
and-false true = refl
and-false false = refl

pub and-true : (a : Bool) → (a and true) ≡ a
unfolding ◌and◌
and-true true = refl
and-true false = refl

pub and_assoc : (a b c : Bool) → ((a and b) and c) ≡ (a and b and c)
unfolding ◌and◌
and_assoc true b c = refl
and_assoc false b c = refl

-- a rule of several parts fails where one does, and passes where all do
pub stop : {a : Bool} (b : Bool) → a ≡ false → (a and b) ≡ false
unfolding ◌and◌
stop b e = rw e

pub skip : {b : Bool} (a : Bool) → b ≡ false → (a and b) ≡ false
skip a e = rw e (and-false a)

pub pass : {a b : Bool} → a ≡ true → b ≡ true → (a and b) ≡ true
unfolding ◌and◌
pass e f = rw (e, f)

pub after : {a b : Bool} → a ≡ true → (a and b) ≡ b
unfolding ◌and◌
after e = rw e

-- a rule of two to five parts, each as it was read
pub and2 : {A B x y q : Bool} → q ≡ (x and y) → x ≡ A → y ≡ B → q ≡ (A and B)
and2 e a b = e ∙ rw (a, b) refl

pub and3 : {A B C x y z u q : Bool} → q ≡ (x and u) → u ≡ (y and z) → x ≡ A → y ≡ B → z ≡ C → q ≡ (A and (B and C))
and3 e d a b c = and2 e a (and2 d b c)

pub and4 : {A B C D x y z w v u q : Bool} → q ≡ (x and u) → u ≡ (y and v) → v ≡ (z and w) → x ≡ A → y ≡ B → z ≡ C → w ≡ D → q ≡ (A and (B and (C and D)))
and4 g f e a b c d = and2 g a (and3 f e b c d)

pub and5 : {A B C D E x y z w t v u r q : Bool} → q ≡ (x and u) → u ≡ (y and v) → v ≡ (z and r) → r ≡ (w and t) → x ≡ A → y ≡ B → z ≡ C → w ≡ D → t ≡ E → q ≡ (A and (B and (C and (D and E))))
and5 i h g f a b c d e = and2 i a (and4 h g f b c d e)

-- parts that are asked one after the other, each by a function that says r of it
pub said : {r a : Bool} → not r ≡ false → r ≡ a → a ≡ true
said {r} n e = sym e ∙ not-false r n

pub denied : {r a : Bool} → not r ≡ true → r ≡ a → a ≡ false
denied {r} n e = sym e ∙ not-true r n

pub fails-here : {r a : Bool} (b : Bool) → not r ≡ true → r ≡ a → false ≡ (a and b)
fails-here b n e = sym (stop b (denied n e))

pub fails-later : {b : Bool} (a : Bool) → false ≡ b → false ≡ (a and b)
fails-later a e = sym (skip a (sym e))

pub goes_on : {r a b q : Bool} → not r ≡ false → r ≡ a → q ≡ b → q ≡ (a and b)
goes_on n e f = f ∙ sym (after (said n e))

pub yes : {A : Type 0} {t : Bool} {x : A} (y : A) → t ≡ true → choose t x y ≡ x
unfolding choose
yes y e = rw e

pub no : {A : Type 0} {t : Bool} {y r : A} (x : A) → t ≡ false → y ≡ r → choose t x y ≡ r
unfolding choose
no x e f = rw e f

-- where no rule of a list is broken, the first holds and nothing is said of the others
pub unbroken : {A : Type 0} (rule : Bool) (n : A) (others : Option A) → choose rule others (some n) ≡ none → (rule ≡ true) × (others ≡ none)
unfolding choose
unbroken true n others h = (refl, h)
unbroken false n others h = (cc, cc)

-- what is said of a rule's refusal and of all later ones is said of the first broken one's
pub either : {A : Type 0} (test : A → Bool) (rule : Bool) (n : A) (others : Option A) → test n ≡ true → ((k : A) → others ≡ some k → test k ≡ true) → (k : A) → choose rule others (some n) ≡ some k → test k ≡ true
unfolding choose
either test true n others h later k e = later k e
either test false n others h later k e = let z : n ≡ k = cc in rw z at h

-- ---- every record below a bound

pub all_more : (test : ℕ → Bool) (k : ℕ) → all_below k test ≡ true → test k ≡ true → all_below (k + 1) test ≡ true
unfolding ◌and◌ all_below
all_more test k a h = rw (add-one k, a, h)

pub all-stop : (test : ℕ → Bool) (n k : ℕ) → k < n → test k ≡ false → all_below n test ≡ false
unfolding ◌and◌ all_below
all-stop test zero k hk h = absurd (omega arith)
all-stop test (suc n) k hk h =
    go (ltb k n) refl (λ hk'. all-stop test n k hk' h)
  where
    go : (b : Bool) → ltb k n ≡ b → (k < n → all_below n test ≡ false) → (all_below n test and test n) ≡ false
    go true e below = rw (below (ltb-true k n e))
    go false e below =
        let last : k ≡ n = omega (arith, ltb-false k n e) in
        let here : test n ≡ false = subst (λ (x : ℕ). test x ≡ false) last h in
        rw here (and-false (all_below n test))

pub all_end : (test : ℕ → Bool) (n k : ℕ) → n ≤ k → k ≤ n → all_below k test ≡ true → true ≡ all_below n test
all_end test n k l h e = let q : k ≡ n = omega arith in sym (rw q at e)

pub all-at : (test : ℕ → Bool) (n k : ℕ) → all_below n test ≡ true → k < n → test k ≡ true
all-at test n k a hk =
    go (test k) refl
  where
    go : (b : Bool) → test k ≡ b → test k ≡ true
    go true e = e
    go false e = cc (all-stop test n k hk e)

-- a loop that asks a function r of record k, and stops where it says no
pub record_no : (test : ℕ → Bool) (n k : ℕ) (r : Bool) → not r ≡ true → r ≡ test k → k < n → false ≡ all_below n test
record_no test n k r e f h = sym (all-stop test n k h (sym f ∙ not-true r e))

pub record_yes : (test : ℕ → Bool) (k : ℕ) (r : Bool) → not r ≡ false → r ≡ test k → all_below k test ≡ true → all_below (k + 1) test ≡ true
record_yes test k r e f a = all_more test k a (sym f ∙ not-false r e)

pub shorter : (test : ℕ → Bool) (k n : ℕ) → k ≤ n → all_below k test ≡ false → all_below n test ≡ false
unfolding all_below
shorter test k zero h e = let q : k ≡ 0 = omega arith in rw q at e
shorter test k (suc n) h e =
    go (ltb k (suc n)) refl (λ l. shorter test k n l e)
  where
    go : (b : Bool) → ltb k (suc n) ≡ b → (k ≤ n → all_below n test ≡ false) → (all_below n test and test n) ≡ false
    go true q f = stop _ (f (omega (arith, ltb-true k (suc n) q)))
    go false q f = let z : k ≡ suc n = omega (arith, ltb-false k (suc n) q) in rw z at e

pub all_same : (f g : ℕ → Bool) (n : ℕ) → ((i : ℕ) → i < n → f i ≡ g i) → all_below n f ≡ all_below n g
unfolding ◌and◌ all_below
all_same f g zero h = refl
all_same f g (suc n) h = cc (all_same f g n (λ i hi. h i (omega arith)), h n (omega arith))

-- a block of records at once
pub all-add : (test : ℕ → Bool) (i n : ℕ) → all_below (i + n) test ≡ (all_below i test and all_below n (λ j. test (i + j)))
unfolding all_below
all-add test i zero = let q : i + 0 ≡ i = omega arith in rw q (sym (and-true (all_below i test)))
all-add test i (suc n) =
    let q : i + suc n ≡ suc (i + n) = omega arith in
    rw (q, all-add test i n) (and_assoc (all_below i test) (all_below n (λ j. test (i + j))) (test (i + n)))

-- the first i of n have passed
pub record Passing (test : ℕ → Bool) (n i : ℕ) : Type 0 where
  pub low : i ≤ n
  pub is : all_below i test ≡ true

pub passing-none : {test : ℕ → Bool} {n : ℕ} → Passing test n 0
unfolding all_below
passing-none = record { low = omega arith; is = refl }

module _ {test : ℕ → Bool} {n i : ℕ} (p : Passing test n i) where
  pub passing-more : {r : Bool} → i < n → not r ≡ false → r ≡ test i → Passing test n (i + 1)
  passing-more {r} lt h e = record { low = omega arith; is = record_yes test i r h e p.is }

  pub passing-no : {r : Bool} {c : ℕ} → i < n → not r ≡ true → r ≡ test i → n ≡ c → false ≡ all_below c test
  passing-no {r} lt h e q = rw (sym q) (record_no test n i r h e lt)

  pub passing-all : {c : ℕ} → n ≤ i → n ≡ c → true ≡ all_below c test
  passing-all h q = rw (sym q) (all_end test n i h p.low p.is)

  -- so many at once
  pub passing-block : (m : ℕ) → i + m ≤ n → all_below m (λ j. test (i + j)) ≡ true → Passing test n (i + m)
  passing-block m l e = record { low = l; is = all-add test i m ∙ pass p.is e }

  pub passing-out : {c : ℕ} (m : ℕ) → i + m ≤ n → all_below m (λ j. test (i + j)) ≡ false → n ≡ c → false ≡ all_below c test
  passing-out m l e q = rw (sym q) (sym (shorter test (i + m) n l (all-add test i m ∙ skip _ e)))

pub greatest-same : (f g : ℕ → ℕ) (n : ℕ) → ((i : ℕ) → i < n → f i ≡ g i) → greatest n f ≡ greatest n g
unfolding greatest
greatest-same f g zero h = refl
greatest-same f g (suc n) h = cc (greatest-same f g n (λ i hi. h i (omega arith)), h n (omega arith))

pub greatest-more : (f : ℕ → ℕ) (k : ℕ) → greatest (k + 1) f ≡ max (greatest k f) (f k)
unfolding greatest
greatest-more f k = rw (add-one k)

-- the greatest of the first i of n
pub record Growing (f : ℕ → ℕ) (n i best : ℕ) : Type 0 where
  pub low : i ≤ n
  pub is : best ≡ greatest i f

pub growing_none : {f : ℕ → ℕ} {n : ℕ} → Growing f n 0 0
unfolding greatest
growing_none = record { low = omega arith; is = refl }

module _ {f : ℕ → ℕ} {n i best : ℕ} (g : Growing f n i best) where
  pub growing_more : {x r : ℕ} → i < n → r ≡ max best x → x ≡ f i → Growing f n (i + 1) r
  growing_more lt e h = record { low = omega arith; is = e ∙ rw (g.is, h) (sym (greatest-more f i)) }

  pub growing_all : {c : ℕ} → n ≤ i → n ≡ c → best ≡ greatest c f
  growing_all {c} h q = let z : i ≡ c = omega (arith, g.low) in g.is ∙ ap (λ (k : ℕ). greatest k f) z

-- ---- records that hold others, with lower numbers

module _ (arity : ℕ → ℕ) (child : ℕ → ℕ → ℕ) (count : ℕ) (lower : (m : ℕ) → m < count → (i : ℕ) → i < arity m → child m i < m) where
  pub levels-is : (k : ℕ) → k < count → levels arity child k ≡ suc (greatest (arity k) (λ i. levels arity child (child k i)))
  unfolding levels
  levels-is k hk =
      made-is 0 (λ of k. suc (greatest (arity k) (λ i. of (child k i)))) count
      (λ g h m hm same. ap suc (greatest-same (λ i. g (child m i)) (λ i. h (child m i)) (arity m) (λ i hi. same (child m i) (lower m hm i hi)))) k hk

  pub throughout-is : (test : ℕ → Bool) (k : ℕ) → k < count → throughout arity child test k ≡ (test k and all_below (arity k) (λ i. throughout arity child test (child k i)))
  unfolding throughout
  throughout-is test k hk =
      made-is true (λ of k. test k and all_below (arity k) (λ i. of (child k i))) count
      (λ g h m hm same. ap (λ (b : Bool). test m and b) (all_same (λ i. g (child m i)) (λ i. h (child m i)) (arity m) (λ i hi. same (child m i) (lower m hm i hi)))) k hk

-- ---- a table that is filled from the front: the entries below k are those of f

pub record Filled {A : Type 0} (other : A) (f : ℕ → A) (table : List A) (k : ℕ) : Type 0 where
  pub at : (j : ℕ) → j < k → get_or table j other ≡ f j

pub filled_none : {A : Type 0} {other : A} {f : ℕ → A} {table : List A} → Filled other f table 0
filled_none = record { at = λ j h. absurd (omega arith) }

pub filled_more : {A : Type 0} {other : A} {f : ℕ → A} {table : List A} {k : ℕ} (x : A) → k < length table → Filled other f table k → x ≡ f k → Filled other f (set table k x) (k + 1)
filled_more {A} {other} {f} {table} {k} x h below e =
    record { at = λ j hj. go j hj (ltb j k) refl }
  where
    go : (j : ℕ) → j < k + 1 → (b : Bool) → ltb j k ≡ b → get_or (set table k x) j other ≡ f j
    go j hj true q = get_or-set_other table k j x other (λ p. absurd (omega (arith, ltb-true j k q))) ∙ below.at j (ltb-true j k q)
    go j hj false q =
        let last : j ≡ k = omega (arith, ltb-false j k q) in
        rw last (get_or-set_same table k x other h ∙ e)
