-- Laws of the byte order, of rising texts, and of the place at which one more goes
use Rattle.std.specs.Prelude.{◌≡◌, Bool, true, false, List, [], ◌∷◌, ◌++◌, ℕ, zero, suc, ◌<◌, ◌≤◌, ltb, eqb, length, take, drop, get_or}
use Rattle.std.proofs.Math.Path.{refl}
use Rattle.std.proofs.Common.{sym, ◌∙◌, ap, arith, ltb-true, ltb-false, lt-ltb, le-ltb, eqb-true, eq-eqb}
use Rattle.std.proofs.lemmas.Bool.{eqb-false}
use Rattle.meaning.specs.Tests.{◌and◌, ◌or◌, choose}
use Rattle.meaning.specs.Text.{before}
use Rattle.laws.specs.Lists.{Every, every_map}
use Rattle.encode.specs.Join.{insert_new, below, joined}

-- ---- the byte order

-- a first byte that is less, or the same one and the rest before
pub data First (a b : ℕ) (s t : List ℕ) : Type 0 where
  less : a < b → First a b s t
  same : a ≡ b → before s t ≡ true → First a b s t

first : (a b : ℕ) (s t : List ℕ) → before (a ∷ s) (b ∷ t) ≡ true → First a b s t
unfolding before ◌or◌ ◌and◌
first a b s t h = go (ltb a b) (eqb a b) refl refl h
  where
    go : (p q : Bool) → ltb a b ≡ p → eqb a b ≡ q → (p or (q and before s t)) ≡ true → First a b s t
    go true q e f h = less (ltb-true a b e)
    go false true e f h = same (eqb-true a b f) h
    go false false e f h = let z : ◌≡◌ {A = ℕ} 0 1 = cc in absurd (omega arith)

by_less : (a b : ℕ) (s t : List ℕ) → a < b → before (a ∷ s) (b ∷ t) ≡ true
unfolding before ◌or◌
by_less a b s t l = rw (lt-ltb a b l)

by_same : (a b : ℕ) (s t : List ℕ) → a ≡ b → before s t ≡ true → before (a ∷ s) (b ∷ t) ≡ true
unfolding before ◌or◌ ◌and◌
by_same a b s t e h = go (ltb a b)
  where
    go : (p : Bool) → (p or (eqb a b and before s t)) ≡ true
    go true = refl
    go false = rw (eq-eqb a b e) h

pub before_trans : (x y z : List ℕ) → before x y ≡ true → before y z ≡ true → before x z ≡ true
before_trans [] [] z p q = unfold before in cc
before_trans [] (b ∷ y) [] p q = unfold before in cc
before_trans [] (b ∷ y) (d ∷ z) p q = unfold before in refl
before_trans (a ∷ x) [] z p q = unfold before in cc
before_trans (a ∷ x) (b ∷ y) [] p q = unfold before in cc
before_trans (a ∷ x) (b ∷ y) (d ∷ z) p q = go (λ h k. before_trans x y z h k) (first a b x y p) (first b d y z q)
  where
    go : (before x y ≡ true → before y z ≡ true → before x z ≡ true) → First a b x y → First b d y z → before (a ∷ x) (d ∷ z) ≡ true
    go rest (less l) (less m) = by_less a d x z (omega arith)
    go rest (less l) (same e h) = by_less a d x z (omega arith)
    go rest (same e h) (less m) = by_less a d x z (omega arith)
    go rest (same e h) (same f k) = by_same a d x z (e ∙ f) (rest h k)

-- neither before the other: the same text
pub before-neither : (x y : List ℕ) → before x y ≡ false → before y x ≡ false → x ≡ y
unfolding before ◌or◌ ◌and◌
before-neither [] [] p q = refl
before-neither [] (b ∷ y) p q = cc
before-neither (a ∷ x) [] p q = cc
before-neither (a ∷ x) (b ∷ y) p q = go (λ p q. before-neither x y p q) (ltb a b) (eqb a b) (ltb b a) (eqb b a) refl refl refl refl p q
  where
    go : (before x y ≡ false → before y x ≡ false → x ≡ y) → (l e m f : Bool) → ltb a b ≡ l → eqb a b ≡ e → ltb b a ≡ m → eqb b a ≡ f → (l or (e and before x y)) ≡ false → (m or (f and before y x)) ≡ false → (a ∷ x) ≡ (b ∷ y)
    go rest true e m f l1 e1 m1 f1 p q = cc
    go rest false e true f l1 e1 m1 f1 p q = cc
    go rest false true false true l1 e1 m1 f1 p q = cc (eqb-true a b e1, rest p q)
    go rest false true false false l1 e1 m1 f1 p q = absurd (eqb-false b a f1 (sym (eqb-true a b e1)))
    go rest false false false f l1 e1 m1 f1 p q = absurd (omega (arith, ltb-false a b l1, ltb-false b a m1, eqb-false a b e1))

pub before-not : (x : List ℕ) → before x x ≡ false
unfolding before ◌or◌ ◌and◌
before-not [] = refl
before-not (a ∷ x) = rw (le-ltb a a (omega arith), before-not x) (go (eqb a a))
  where
    go : (p : Bool) → (p and false) ≡ false
    go true = refl
    go false = refl

-- ---- rising texts

-- each is before all that follow
abbrev pub Rising : List (List ℕ) → Type 0
Rising [] = Unit {0}
Rising (y ∷ ys) = Every (λ z. before y z ≡ true) ys × Rising ys

pub every-at : {A : Type 0} (P : A → Type 0) (l : List A) (i : ℕ) (d : A) → Every P l → i < length l → P (get_or l i d)
every-at P [] i d e h = absurd (omega arith)
every-at P (y ∷ ys) zero d e h = e.0
every-at P (y ∷ ys) (suc i) d e h = every-at P ys i d e.1 (omega arith)

pub insert_every : (P : List ℕ → Type 0) (x : List ℕ) (l : List (List ℕ)) → P x → Every P l → Every P (insert_new x l)
unfolding insert_new choose
insert_every P x [] p e = (p, tt)
insert_every P x (y ∷ ys) p e = go (before y x) (before x y) (insert_every P x ys p e.1)
  where
    go : (a b : Bool) → Every P (insert_new x ys) → Every P (choose a (y ∷ insert_new x ys) (choose b (x ∷ y ∷ ys) (y ∷ ys)))
    go true b r = (e.0, r)
    go false true r = (p, e)
    go false false r = e

pub insert_rises : (x : List ℕ) (l : List (List ℕ)) → Rising l → Rising (insert_new x l)
unfolding insert_new choose
insert_rises x [] r = (tt, tt)
insert_rises x (y ∷ ys) r = go (before y x) (before x y) refl refl (insert_rises x ys r.1)
  where
    go : (a b : Bool) → before y x ≡ a → before x y ≡ b → Rising (insert_new x ys) → Rising (choose a (y ∷ insert_new x ys) (choose b (x ∷ y ∷ ys) (y ∷ ys)))
    go true b e f more = (insert_every (λ z. before y z ≡ true) x ys e r.0, more)
    go false true e f more = ((f, every_map ys (λ z h. before_trans x y z f h) r.0), r)
    go false false e f more = r

pub joined-rises : (text : ℕ → List ℕ) (k : ℕ) → Rising (joined text k)
unfolding joined
joined-rises text zero = tt
joined-rises text (suc k) = insert_rises (text k) (joined text k) (joined-rises text k)

-- ---- the place of a text among rising ones

-- what is before x stands below its place
pub place-above : (x : List ℕ) (l : List (List ℕ)) (i : ℕ) → Rising l → i < length l → before (get_or l i []) x ≡ true → i < below x l
unfolding below choose
place-above x [] i r h e = absurd (omega arith)
place-above x (y ∷ ys) zero r h e = rw e (omega arith)
place-above x (y ∷ ys) (suc i) r h e =
    let first : before y x ≡ true = before_trans y (get_or ys i []) x (every-at (λ z. before y z ≡ true) ys i [] r.0 (omega arith)) e in
    rw first (omega (arith, place-above x ys i r.1 (omega arith) e))

-- what is not, does not
pub place-below : (x : List ℕ) (l : List (List ℕ)) (i : ℕ) → i < length l → before (get_or l i []) x ≡ false → below x l ≤ i
unfolding below choose
place-below x [] i h e = absurd (omega arith)
place-below x (y ∷ ys) zero h e = rw e (omega arith)
place-below x (y ∷ ys) (suc i) h e = go (before y x) (place-below x ys i (omega arith) e)
  where
    go : (a : Bool) → below x ys ≤ i → choose a (suc (below x ys)) 0 ≤ suc i
    go true l = omega arith
    go false l = omega arith

pub place_inside : (x : List ℕ) (l : List (List ℕ)) → below x l ≤ length l
unfolding below choose
place_inside x [] = omega arith
place_inside x (y ∷ ys) = go (before y x) (place_inside x ys)
  where
    go : (a : Bool) → below x ys ≤ length ys → choose a (suc (below x ys)) 0 ≤ suc (length ys)
    go true l = omega arith
    go false l = omega arith

-- the text at its place is not before it, so it is x itself where x is not before that one
pub place-there : (x : List ℕ) (l : List (List ℕ)) → below x l < length l → before x (get_or l (below x l) []) ≡ false → get_or l (below x l) [] ≡ x
unfolding below choose
place-there x [] h e = absurd (omega arith)
place-there x (y ∷ ys) h e = go (before y x) refl (λ h e. place-there x ys h e) h e
  where
    go : (a : Bool) → before y x ≡ a → (below x ys < length ys → before x (get_or ys (below x ys) []) ≡ false → get_or ys (below x ys) [] ≡ x) → choose a (suc (below x ys)) 0 < suc (length ys) → before x (get_or (y ∷ ys) (choose a (suc (below x ys)) 0) []) ≡ false → get_or (y ∷ ys) (choose a (suc (below x ys)) 0) [] ≡ x
    go true q rest h e = rest (omega arith) e
    go false q rest h e = before-neither y x q e

-- a text that is there changes nothing
pub insert_there : (x : List ℕ) (l : List (List ℕ)) → below x l < length l → before x (get_or l (below x l) []) ≡ false → insert_new x l ≡ l
unfolding insert_new below choose
insert_there x [] h e = absurd (omega arith)
insert_there x (y ∷ ys) h e = go (before y x) (before x y) refl (λ h e. insert_there x ys h e) h e
  where
    go : (a b : Bool) → before x y ≡ b → (below x ys < length ys → before x (get_or ys (below x ys) []) ≡ false → insert_new x ys ≡ ys) → choose a (suc (below x ys)) 0 < suc (length ys) → before x (get_or (y ∷ ys) (choose a (suc (below x ys)) 0) []) ≡ false → choose a (y ∷ insert_new x ys) (choose b (x ∷ y ∷ ys) (y ∷ ys)) ≡ (y ∷ ys)
    go true b q rest h e = ap (λ (t : List (List ℕ)). y ∷ t) (rest (omega arith) e)
    go false true q rest h e = cc
    go false false q rest h e = refl

-- any other goes where `below` says
pub insert_at : (x : List ℕ) (l : List (List ℕ)) → (below x l < length l → before x (get_or l (below x l) []) ≡ true) → insert_new x l ≡ take (below x l) l ++ (x ∷ drop (below x l) l)
unfolding insert_new below choose
insert_at x [] h = refl
insert_at x (y ∷ ys) h = go (before y x) (before x y) refl (λ h. insert_at x ys h) h
  where
    go : (a b : Bool) → before x y ≡ b → ((below x ys < length ys → before x (get_or ys (below x ys) []) ≡ true) → insert_new x ys ≡ take (below x ys) ys ++ (x ∷ drop (below x ys) ys))
        → (choose a (suc (below x ys)) 0 < suc (length ys) → before x (get_or (y ∷ ys) (choose a (suc (below x ys)) 0) []) ≡ true)
        → choose a (y ∷ insert_new x ys) (choose b (x ∷ y ∷ ys) (y ∷ ys))
        ≡ take (choose a (suc (below x ys)) 0) (y ∷ ys) ++ (x ∷ drop (choose a (suc (below x ys)) 0) (y ∷ ys))
    go true b q rest h = ap (λ (t : List (List ℕ)). y ∷ t) (rest (λ l. h (omega arith)))
    go false true q rest h = refl
    go false false q rest h = let z = h (omega arith) in cc

-- joining never makes it shorter
insert_long : (x : List ℕ) (l : List (List ℕ)) → length l ≤ length (insert_new x l)
unfolding insert_new choose
insert_long x [] = omega arith
insert_long x (y ∷ ys) = go (before y x) (before x y) (insert_long x ys)
  where
    go : (a b : Bool) → length ys ≤ length (insert_new x ys) → suc (length ys) ≤ length (choose a (y ∷ insert_new x ys) (choose b (x ∷ y ∷ ys) (y ∷ ys)))
    go true b l = omega arith
    go false true l = omega arith
    go false false l = omega arith

pub joined-long : (text : ℕ → List ℕ) (k n : ℕ) → k ≤ n → length (joined text k) ≤ length (joined text n)
unfolding joined
joined-long text k zero h = let q : k ≡ 0 = omega arith in rw q (omega arith)
joined-long text k (suc n) h = go (ltb k (suc n)) refl (λ l. joined-long text k n l)
  where
    go : (b : Bool) → ltb k (suc n) ≡ b → (k ≤ n → length (joined text k) ≤ length (joined text n)) → length (joined text k) ≤ length (insert_new (text n) (joined text n))
    go true e rest = omega (arith, rest (omega (arith, ltb-true k (suc n) e)), insert_long (text n) (joined text n))
    go false e rest = let q : k ≡ suc n = omega (arith, ltb-false k (suc n) e) in rw q (omega arith)

-- nor longer than one for each
insert_most : (x : List ℕ) (l : List (List ℕ)) → length (insert_new x l) ≤ suc (length l)
unfolding insert_new choose
insert_most x [] = omega arith
insert_most x (y ∷ ys) = go (before y x) (before x y) (insert_most x ys)
  where
    go : (a b : Bool) → length (insert_new x ys) ≤ suc (length ys) → length (choose a (y ∷ insert_new x ys) (choose b (x ∷ y ∷ ys) (y ∷ ys))) ≤ suc (suc (length ys))
    go true b l = omega arith
    go false true l = omega arith
    go false false l = omega arith

pub joined-most : (text : ℕ → List ℕ) (k : ℕ) → length (joined text k) ≤ k
unfolding joined
joined-most text zero = omega arith
joined-most text (suc k) = omega (arith, insert_most (text k) (joined text k), joined-most text k)
