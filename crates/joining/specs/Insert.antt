-- Laws of insertion: in any order, as often as one likes, and of a text that stays new and keeps its place
use Rattle.std.specs.Prelude.{◌≡◌, ℕ, zero, suc, ◌+◌, ◌-◌, ◌<◌, ◌≤◌, Bool, true, false, List, [], ◌∷◌, ◌++◌, length, take, drop, nat_lt, slice_index_or, refl}
use Rattle.std.proofs.Common.{sym, ◌∙◌, ap, arith, length-drop, length-take-le, get_or-take, get_or-drop, ltb-true, ltb-false}
use Rattle.meaning.specs.Tests.{choose}
use Rattle.meaning.specs.Text.{before}
use Rattle.laws.specs.Lists.{Every}
use Rattle.encode.specs.Join.{insert_new, below}
use Rattle.encode.proofs.Laws.Join.{Rising, every-at, before_trans, before-neither, before-not, place-above, place-below, place_inside, insert_at}
use Rattle.joining.specs.Fresh.{insert_all, New}
use Rattle.joining.specs.Laws.{more-long}

pub before-after : (x y : List ℕ) → before x y ≡ true → before y x ≡ false
before-after x y h = go (before y x) refl
  where
    go : (b : Bool) → before y x ≡ b → b ≡ false
    go true e = let z : true ≡ false = sym (before_trans x y x h e) ∙ before-not x in cc
    go false e = refl

-- ---- in any order

swap : (a b : List ℕ) (l : List (List ℕ)) → before a b ≡ true → insert_new a (insert_new b l) ≡ insert_new b (insert_new a l)
unfolding insert_new choose
swap a b [] h = rw (before-after a b h, h) refl
swap a b (z ∷ zs) h = go (before z b) (before b z) (before z a) (before a z) refl refl refl refl (swap a b zs h)
  where
    go : (p q r t : Bool) → before z b ≡ p → before b z ≡ q → before z a ≡ r → before a z ≡ t
        → insert_new a (insert_new b zs) ≡ insert_new b (insert_new a zs)
        → insert_new a (choose p (z ∷ insert_new b zs) (choose q (b ∷ z ∷ zs) (z ∷ zs))) ≡ insert_new b (choose r (z ∷ insert_new a zs) (choose t (a ∷ z ∷ zs) (z ∷ zs)))
    go true q true t e f g i rest = rw (g, e) (ap (λ (l : List (List ℕ)). z ∷ l) rest)
    go false q true t e f g i rest = let k = before_trans z a b g h in cc
    go true q false true e f g i rest = rw (g, i, h, e) refl
    go false true false true e f g i rest = rw (before-after a b h, h, e, f) refl
    go false false false true e f g i rest = rw (g, i, h, e, f) refl
    go true q false false e f g i rest = rw (g, i, e) refl
    go false q false false e f g i rest = let k = before-neither z a g i in cc

pub commute : (x y : List ℕ) (l : List (List ℕ)) → insert_new x (insert_new y l) ≡ insert_new y (insert_new x l)
commute x y l = go (before x y) (before y x) refl refl
  where
    go : (p q : Bool) → before x y ≡ p → before y x ≡ q → insert_new x (insert_new y l) ≡ insert_new y (insert_new x l)
    go true q e f = swap x y l e
    go false true e f = sym (swap y x l f)
    go false false e f = let k : x ≡ y = before-neither x y e f in rw k refl

pub again : (x : List ℕ) (l : List (List ℕ)) → insert_new x (insert_new x l) ≡ insert_new x l
unfolding insert_new choose
again x [] = rw (before-not x) refl
again x (z ∷ zs) = go (before z x) (before x z) refl refl (again x zs)
  where
    go : (p q : Bool) → before z x ≡ p → before x z ≡ q → insert_new x (insert_new x zs) ≡ insert_new x zs
        → insert_new x (choose p (z ∷ insert_new x zs) (choose q (x ∷ z ∷ zs) (z ∷ zs))) ≡ choose p (z ∷ insert_new x zs) (choose q (x ∷ z ∷ zs) (z ∷ zs))
    go true q e f rest = rw e (ap (λ (l : List (List ℕ)). z ∷ l) rest)
    go false true e f rest = rw (before-not x) refl
    go false false e f rest = rw (e, f) refl

-- one more below all of xs, or among them
pub all-below : (x : List ℕ) (xs l : List (List ℕ)) → insert_new x (insert_all xs l) ≡ insert_all xs (insert_new x l)
unfolding insert_all
all-below x [] l = refl
all-below x (y ∷ ys) l = commute x y (insert_all ys l) ∙ ap (insert_new y) (all-below x ys l)

pub all_more : (x : List ℕ) (xs l : List (List ℕ)) → insert_all (insert_new x xs) l ≡ insert_new x (insert_all xs l)
unfolding insert_all insert_new choose
all_more x [] l = refl
all_more x (y ∷ ys) l = go (before y x) (before x y) refl refl (all_more x ys l)
  where
    go : (p q : Bool) → before y x ≡ p → before x y ≡ q → insert_all (insert_new x ys) l ≡ insert_new x (insert_all ys l)
        → insert_all (choose p (y ∷ insert_new x ys) (choose q (x ∷ y ∷ ys) (y ∷ ys))) l ≡ insert_new x (insert_new y (insert_all ys l))
    go true q e f rest = ap (insert_new y) rest ∙ commute y x (insert_all ys l)
    go false true e f rest = refl
    go false false e f rest = let k : y ≡ x = before-neither y x e f in rw k (sym (again x (insert_all ys l)))

-- ---- a text keeps its place, and is new there, as long as what is put in comes after it

record Stays (x : List ℕ) (l m : List (List ℕ)) : Type 0 where
  pub same : below x m ≡ below x l
  pub new : New x m

stays-one : (x y : List ℕ) (l : List (List ℕ)) → before x y ≡ true → New x l → Stays x l (insert_new y l)
unfolding insert_new below choose
stays-one x y [] h n = let k = before-after x y h in record { same = rw k refl; new = rw k (λ lt. h) }
stays-one x y (z ∷ zs) h n = go (before z x) (before z y) (before y z) refl refl refl n (λ k. stays-one x y zs h k)
  where
    go : (p q r : Bool) → before z x ≡ p → before z y ≡ q → before y z ≡ r
        → (choose p (suc (below x zs)) 0 < suc (length zs) → before x (slice_index_or (z ∷ zs) (choose p (suc (below x zs)) 0) []) ≡ true)
        → (New x zs → Stays x zs (insert_new y zs))
        → Stays x (z ∷ zs) (choose q (z ∷ insert_new y zs) (choose r (y ∷ z ∷ zs) (z ∷ zs)))
    go true true r e f g n rest =
        let k = rest (λ lt. n (omega arith)) in
        record { same = rw e (ap suc k.same); new = rw e (λ lt. k.new (omega arith)) }
    go true false r e f g n rest = let k = before_trans z x y e h in let w : ◌≡◌ {A = ℕ} 0 1 = cc in absurd (omega arith)
    go false true r e f g n rest = record { same = rw e refl; new = rw e (λ lt. n (omega arith)) }
    go false false true e f g n rest = let k = before-after x y h in record { same = rw (k, e) refl; new = rw k (λ lt. h) }
    go false false false e f g n rest = record { same = refl; new = rw e (λ lt. n (omega arith)) }

stays_all : (x : List ℕ) (ys l : List (List ℕ)) → Every (λ y. before x y ≡ true) ys → New x l → Stays x l (insert_all ys l)
unfolding insert_all
stays_all x [] l e n = record { same = refl; new = n }
stays_all x (y ∷ ys) l e n =
    let k = stays_all x ys l e.1 n in
    let j = stays-one x y (insert_all ys l) e.0 k.new in
    record { same = j.same ∙ k.same; new = j.new }

-- so the first of rising texts goes to its place among the others
pub all-at : (x : List ℕ) (xs l : List (List ℕ)) → Rising (x ∷ xs) → New x l → insert_all (x ∷ xs) l ≡ take (below x l) (insert_all xs l) ++ (x ∷ drop (below x l) (insert_all xs l))
unfolding insert_all
all-at x xs l r n =
    let k = stays_all x xs l r.0 n in
    insert_at x (insert_all xs l) k.new
    ∙ ap (λ (p : ℕ). take p (insert_all xs l) ++ (x ∷ drop p (insert_all xs l))) k.same

pub all-inside : (x : List ℕ) (xs l : List (List ℕ)) → Rising (x ∷ xs) → New x l → below x l ≤ length (insert_all xs l)
all-inside x xs l r n = omega (arith, place_inside x (insert_all xs l), (stays_all x xs l r.0 n).same)

pub all-long : (xs l : List (List ℕ)) → Rising xs → Every (λ y. New y l) xs → length (insert_all xs l) ≡ length xs + length l
all-long [] l r n = unfold insert_all in (omega arith)
all-long (x ∷ xs) l r n =
    omega (
      arith,
      ap length (all-at x xs l r n.0),
      more-long (insert_all xs l) x [] (below x l) (all-inside x xs l r n.0),
      all-long xs l r.1 n.1,
    )

-- ---- rising texts, and the place among them

pub below_less : (x y : List ℕ) (l : List (List ℕ)) → before x y ≡ true → below x l ≤ below y l
unfolding below choose
below_less x y [] h = omega arith
below_less x y (z ∷ zs) h = go (before z x) (before z y) refl refl (below_less x y zs h)
  where
    go : (p q : Bool) → before z x ≡ p → before z y ≡ q → below x zs ≤ below y zs → choose p (suc (below x zs)) 0 ≤ choose q (suc (below y zs)) 0
    go true true e f rest = omega arith
    go true false e f rest = let k = before_trans z x y e h in let w : ◌≡◌ {A = ℕ} 0 1 = cc in absurd (omega arith)
    go false q e f rest = omega arith

pub rising-drop : (l : List (List ℕ)) (i : ℕ) → Rising l → Rising (drop i l)
rising-drop [] zero r = r
rising-drop [] (suc i) r = r
rising-drop (x ∷ xs) zero r = r
rising-drop (x ∷ xs) (suc i) r = rising-drop xs i r.1

pub every_drop : (P : List ℕ → Type 0) (l : List (List ℕ)) (i : ℕ) → Every P l → Every P (drop i l)
every_drop P [] zero e = e
every_drop P [] (suc i) e = e
every_drop P (x ∷ xs) zero e = e
every_drop P (x ∷ xs) (suc i) e = every_drop P xs i e.1

every_take : (P : List ℕ → Type 0) (l : List (List ℕ)) (i : ℕ) → Every P l → Every P (take i l)
every_take P [] zero e = e
every_take P [] (suc i) e = e
every_take P (x ∷ xs) zero e = tt
every_take P (x ∷ xs) (suc i) e = (e.0, every_take P xs i e.1)

pub rising-take : (l : List (List ℕ)) (i : ℕ) → Rising l → Rising (take i l)
rising-take [] zero r = r
rising-take [] (suc i) r = r
rising-take (x ∷ xs) zero r = tt
rising-take (x ∷ xs) (suc i) r = (every_take (λ z. before x z ≡ true) xs i r.0, rising-take xs i r.1)

pub rising-at : (l : List (List ℕ)) (i j : ℕ) → Rising l → i < j → j < length l → before (slice_index_or l i []) (slice_index_or l j []) ≡ true
rising-at [] i j r h k = absurd (omega arith)
rising-at (x ∷ xs) zero zero r h k = absurd (omega arith)
rising-at (x ∷ xs) zero (suc j) r h k = every-at (λ z. before x z ≡ true) xs j [] r.0 (omega arith)
rising-at (x ∷ xs) (suc i) zero r h k = absurd (omega arith)
rising-at (x ∷ xs) (suc i) (suc j) r h k = rising-at xs i j r.1 (omega arith) (omega arith)

-- what stands below the place of x is before it, what stands there is not
pub place-before : (x : List ℕ) (l : List (List ℕ)) (i : ℕ) → i < below x l → before (slice_index_or l i []) x ≡ true
place-before x l i h = go (before (slice_index_or l i []) x) refl
  where
    go : (b : Bool) → before (slice_index_or l i []) x ≡ b → b ≡ true
    go true e = refl
    go false e = absurd (omega (arith, place-below x l i (omega (arith, place_inside x l)) e))

place-not : (x : List ℕ) (l : List (List ℕ)) → Rising l → below x l < length l → before (slice_index_or l (below x l) []) x ≡ false
place-not x l r h = go (before (slice_index_or l (below x l) []) x) refl
  where
    go : (b : Bool) → before (slice_index_or l (below x l) []) x ≡ b → b ≡ false
    go true e = absurd (omega (arith, place-above x l (below x l) r h e))
    go false e = refl

-- the place of x in a part that holds it
pub place-part : (x : List ℕ) (l : List (List ℕ)) (low w : ℕ) → Rising l → low + w ≤ length l → low ≤ below x l → below x l ≤ low + w → below x l ≡ low + below x (take w (drop low l))
place-part x l low w r fits least most = omega (arith, up (nat_lt (below x part) w) refl, down (nat_lt 0 (below x part)) refl)
  where
    part : List (List ℕ)
    part = take w (drop low l)

    long : length part ≡ w
    long = length-take-le w (drop low l) (omega (arith, length-drop low l))

    entry : (i : ℕ) → i < w → slice_index_or part i [] ≡ slice_index_or l (low + i) []
    entry i h = get_or-take w (drop low l) i [] h ∙ get_or-drop low l i []

    up : (b : Bool) → nat_lt (below x part) w ≡ b → below x l ≤ low + below x part
    up true e =
        let t : below x part < w = ltb-true (below x part) w e in
        place-below x l (low + below x part) (omega arith) (ap (λ (y : List ℕ). before y x) (sym (entry (below x part) t)) ∙ place-not x part (rising-take (drop low l) w (rising-drop l low r)) (omega (arith, long)))
    up false e = omega (arith, ltb-false (below x part) w e)

    down : (b : Bool) → nat_lt 0 (below x part) ≡ b → low + below x part ≤ below x l
    down true e =
        let t : 0 < below x part = ltb-true 0 (below x part) e in
        omega (arith, place-above x l (low + (below x part - 1)) r (omega (arith, place_inside x part, long)) (ap (λ (y : List ℕ). before y x) (sym (entry (below x part - 1) (omega (arith, place_inside x part, long)))) ∙ place-before x part (below x part - 1) (omega arith)))
    down false e = omega (arith, ltb-false 0 (below x part) e)
