-- Laws of blocks of members: of a run that goes on by a whole block, and of what is kept of a block
use Rattle.std.specs.Prelude.{◌≡◌, Bool, true, false, List, [], ◌∷◌, ◌⊎◌, eqb, get_or, set, replicate}
use Rattle.std.proofs.Math.Path.{refl, sym, ap}
use Rattle.std.proofs.Common.{◌∙◌, inl, inr, ⊎_elim, get_or-set_other, lt-ltb, le-ltb, ltb-true, ltb-false}
use Prim.Native.Nat.{ℕ, zero, suc, ◌+◌, ◌*◌, ◌-◌, ◌<◌, ◌≤◌, max}
use native.Mathlib.Omega.{arith}
use Rattle.std.proofs.Math.Dec.{ltb}
use Rattle.meaning.specs.Tests.{◌and◌, choose, all_below, rises, greatest}
use Rattle.meaning.specs.Case.{nothing, member_word}
use Rattle.meaning.specs.Check.{array_item, object_item, depth}
use Rattle.laws.specs.Tests.{Filled, both, stop, skip, pass, after, yes, no, all_same, all-at}
use Rattle.valuecheck.specs.Blocks.{top_of, object_name, object_top, Depths, Marked, Lower}
use Rattle.stringcheck.specs.Tables.{replicate-same}

-- the greatest of a run and a block
pub greatest-add : (f : ℕ → ℕ) (i n : ℕ) → greatest (i + n) f ≡ max (greatest i f) (greatest n (λ j. f (i + j)))
unfolding greatest
greatest-add f i zero = let q : i + 0 ≡ i = omega arith in rw q (top (greatest i f))
  where
    top : (x : ℕ) → x ≡ max x 0
    top x = omega arith
greatest-add f i (suc n) =
    let q : i + suc n ≡ suc (i + n) = omega arith in
    rw (q, greatest-add f i n) (regroup (greatest i f) (greatest n (λ j. f (i + j))) (f (i + n)))
  where
    regroup : (x y z : ℕ) → max (max x y) z ≡ max x (max y z)
    regroup x y z = omega arith

pub all_true : (test : ℕ → Bool) (n : ℕ) → ((i : ℕ) → i < n → test i ≡ true) → all_below n test ≡ true
unfolding all_below
all_true test zero h = refl
all_true test (suc n) h = pass (all_true test n (λ i hi. h i (omega arith))) (h n (omega arith))

-- ---- an array's items by the greatest value held

swap : (p a q b : Bool) → ((p and a) and (q and b)) ≡ ((p and q) and (a and b))
unfolding ◌and◌
swap false a q b = refl
swap true true true b = refl
swap true true false b = refl
swap true false true b = refl
swap true false false b = refl

pub ltb-max : (a b v : ℕ) → ltb (max a b) v ≡ (ltb a v and ltb b v)
ltb-max a b v = go (ltb a v) refl (ltb b v) refl
  where
    go : (x : Bool) → ltb a v ≡ x → (y : Bool) → ltb b v ≡ y → ltb (max a b) v ≡ (ltb a v and ltb b v)
    go true e true f = lt-ltb _ _ (above a b (ltb-true a v e) (ltb-true b v f)) ∙ sym (pass e f)
      where
        above : (a b : ℕ) → a < v → b < v → max a b < v
        above a b h l = omega arith
    go true e false f = le-ltb _ _ (second a b (ltb-false b v f)) ∙ sym (skip _ f)
      where
        second : (a b : ℕ) → v ≤ b → v ≤ max a b
        second a b h = omega arith
    go false e y f = le-ltb _ _ (first a b (ltb-false a v e)) ∙ sym (stop _ e)
      where
        first : (a b : ℕ) → v ≤ a → v ≤ max a b
        first a b h = omega arith

all_under : (p : ℕ → Bool) (f : ℕ → ℕ) (v n : ℕ) → all_below (suc n) (λ i. p i and ltb (f i) v) ≡ (all_below (suc n) p and ltb (greatest (suc n) f) v)
unfolding all_below greatest
all_under p f v zero = let q : max 0 (f 0) ≡ f 0 = omega arith in rw q (unfold ◌and◌ in refl)
all_under p f v (suc n) =
    ap (λ (b : Bool). b and (p (suc n) and ltb (f (suc n)) v)) (all_under p f v n)
    ∙ swap (all_below (suc n) p) (ltb (greatest (suc n) f) v) (p (suc n)) (ltb (f (suc n)) v)
    ∙ ap (λ (b : Bool). (all_below (suc n) p and p (suc n)) and b) (sym (ltb-max (greatest (suc n) f) (f (suc n)) v))

-- where each of a block has its own rule and a number below v, one number says both: the greatest, or more than any where one breaks its rule
pub bound-is : (p : ℕ → Bool) (f : ℕ → ℕ) (v n : ℕ) → v < 4294967296 → ltb (choose (all_below (suc n) p) (greatest (suc n) f) nothing) v ≡ all_below (suc n) (λ i. p i and ltb (f i) v)
bound-is p f v n h = go (all_below (suc n) p) refl ∙ sym (all_under p f v n)
  where
    go : (b : Bool) → all_below (suc n) p ≡ b → ltb (choose (all_below (suc n) p) (greatest (suc n) f) nothing) v ≡ (all_below (suc n) p and ltb (greatest (suc n) f) v)
    go true e = ap (λ (t : ℕ). ltb t v) (yes nothing e) ∙ sym (after e)
    go false e = ap (λ (t : ℕ). ltb t v) (no (greatest (suc n) f) e refl) ∙ le-ltb nothing v (omega arith) ∙ sym (stop _ e)

-- an array may hold a whole block just if its number is above the block's top
top-is : (s : List ℕ) (v at : ℕ) → v < 4294967296 → ltb (top_of s at) v ≡ all_below 512 (array_item s v at)
unfolding top_of array_item
top-is s v at h = bound-is (λ i. eqb (member_word s (at + i) 0) nothing) (λ i. member_word s (at + i) 1) v 511 h

shift : (s : List ℕ) (v at first i j : ℕ) → at ≡ first + i → array_item s v at j ≡ array_item s v first (i + j)
unfolding array_item
shift s v at first i j e = let q : at + j ≡ first + (i + j) = omega arith in rw q

-- so the block that starts at item i of a run, by what is kept of it
pub array-top : (s : List ℕ) {tops : List ℕ} (v first i b : ℕ) {n : ℕ} → Filled 0 (λ b. top_of s (512 * b)) tops n → b < n → 512 * b ≡ first + i → v < 4294967296 → ltb (get_or tops b 0) v ≡ all_below 512 (λ j. array_item s v first (i + j))
array-top s v first i b t hb q h =
    ap (λ (x : ℕ). ltb x v) (t.at b hb) ∙ top-is s v (512 * b) h
    ∙ all_same (array_item s v (512 * b)) (λ j. array_item s v first (i + j)) 512 (λ j hj. shift s v (512 * b) first i j q)

-- ---- a run whose items look at the one before goes on by a whole block, which starts at item i

module _ (item here : ℕ → Bool) (i : ℕ) (inner : (j : ℕ) → item (i + suc j) ≡ here (suc j)) where
  pub run_more : (n : ℕ) → all_below i item ≡ true → item i ≡ true → all_below n here ≡ true → all_below (i + n) item ≡ true
  run_more n a h b = all_true item (i + n) (λ m l. go m l (ltb m i) refl (ltb i m) refl)
    where
      go : (m : ℕ) → m < i + n → (x : Bool) → ltb m i ≡ x → (y : Bool) → ltb i m ≡ y → item m ≡ true
      go m l true p y q = all-at item i m a (ltb-true m i p)
      go m l false p false q = let z : m ≡ i = omega (arith, ltb-false m i p, ltb-false i m q) in rw z h
      go m l false p true q =
          let g : i < m = ltb-true i m q in
          let z : i + suc (m - i - 1) ≡ m = omega arith in
          ap item (sym z) ∙ inner (m - i - 1) ∙ all-at here n (suc (m - i - 1)) b (omega arith)

  pub run-stop : (items n : ℕ) → i + n ≤ items → (item i ≡ true → here 0 ≡ true) → all_below n here ≡ false → all_below items item ≡ false
  run-stop items n l opens b = go (all_below items item) refl
    where
      whole : all_below items item ≡ true → (j : ℕ) → j < n → here j ≡ true
      whole h zero hj = opens (all-at item items i h (omega arith))
      whole h (suc j) hj = sym (inner j) ∙ all-at item items (i + suc j) h (omega arith)

      go : (x : Bool) → all_below items item ≡ x → all_below items item ≡ false
      go false q = q
      go true q = cc (all_true here n (whole q))

-- ---- an object's items by their names and the greatest value held

last-two : (a l w : Bool) → ((a and l) and w) ≡ ((a and w) and l)
unfolding ◌and◌
last-two false l w = refl
last-two true true true = refl
last-two true true false = refl
last-two true false true = refl
last-two true false false = refl

pub object-is : (s : List ℕ) (v first i : ℕ) → object_item s v first i ≡ (object_name s first i and ltb (member_word s (first + i) 1) v)
unfolding object_item object_name
object-is s v first i = last-two _ _ _

module _ (s : List ℕ) (v first i at : ℕ) (e : at ≡ first + i) where
  inside : (j : ℕ) → object_item s v first (i + suc j) ≡ object_item s v at (suc j)
  unfolding object_item rises
  inside j =
      let q : i + suc j ≡ suc (i + j) = omega arith in
      let this : first + suc (i + j) ≡ at + suc j = omega arith in
      let last : first + (i + j) ≡ at + j = omega arith in
      rw (q, this, last) refl

  opens : object_item s v first i ≡ true → object_item s v at 0 ≡ true
  unfolding object_item rises
  opens h = let q : at + 0 ≡ first + i = omega arith in pass (rw q (both _ _ h).0) refl

  module _ (b : ℕ) {tops : List ℕ} {n : ℕ} (t : Filled 0 (λ b. object_top s (512 * b)) tops n) (hb : b < n) (q : 512 * b ≡ at) (fits : v < 4294967296) where
    block : ltb (get_or tops b 0) v ≡ all_below 512 (object_item s v at)
    unfolding object_top
    block =
        ap (λ (x : ℕ). ltb x v) (t.at b hb ∙ ap (object_top s) q)
        ∙ bound-is (object_name s at) (λ i. member_word s (at + i) 1) v 511 fits
        ∙ all_same _ _ 512 (λ i hi. sym (object-is s v at i))

    pub object-more : all_below i (object_item s v first) ≡ true → object_item s v first i ≡ true → get_or tops b 0 < v → all_below (i + 512) (object_item s v first) ≡ true
    object-more a h l = run_more (object_item s v first) (object_item s v at) i inside 512 a h (sym block ∙ lt-ltb _ _ l)

    pub object-stop : (items : ℕ) → i + 512 ≤ items → v ≤ get_or tops b 0 → all_below items (object_item s v first) ≡ false
    object-stop items f l = run-stop (object_item s v first) (object_item s v at) i inside items 512 f opens (sym block ∙ le-ltb _ _ l)

-- ---- what is kept of blocks

-- an entry after a store is the old one or the new
pub set_get : {A : Type 0} (other : A) (xs : List A) (b j : ℕ) (x : A) → (get_or (set xs b x) j other ≡ get_or xs j other) ⊎ ((j ≡ b) × (get_or (set xs b x) j other ≡ x))
set_get other [] zero j x = inl refl
set_get other [] (suc b) j x = inl refl
set_get other (y ∷ xs) zero zero x = inr (refl, refl)
set_get other (y ∷ xs) zero (suc j) x = inl refl
set_get other (y ∷ xs) (suc b) zero x = inl refl
set_get other (y ∷ xs) (suc b) (suc j) x = ⊎_elim (λ e. inl e) (λ p. inr (ap suc p.0, p.1)) (set_get other xs b j x)

pub depths_none : (s : List ℕ) (n : ℕ) → Depths s (replicate n 0)
depths_none s n = record { known = λ b f. absurd (f (replicate-same n b 0)) }

pub depths_more : {s blocks : List ℕ} {at x : ℕ} (b : ℕ) → Depths s blocks → 512 * b ≡ at → x ≡ greatest 512 (λ j. depth s (member_word s (at + j) 1)) → Depths s (set blocks b x)
depths_more {s} {blocks} {at} {x} b d q e = record { known = λ j f. go j f (set_get 0 blocks b j x) }
  where
    go : (j : ℕ) → (get_or (set blocks b x) j 0 ≡ 0 → ⊥) → ((get_or (set blocks b x) j 0 ≡ get_or blocks j 0) ⊎ ((j ≡ b) × (get_or (set blocks b x) j 0 ≡ x))) → get_or (set blocks b x) j 0 ≡ greatest 512 (λ i. depth s (member_word s (512 * j + i) 1))
    go j f (inl p) = p ∙ d.known j (λ z. f (p ∙ z))
    go j f (inr p) = p.1 ∙ e ∙ ap (λ (a : ℕ). greatest 512 (λ i. depth s (member_word s (a + i) 1))) (sym q ∙ ap (λ (a : ℕ). 512 * a) (sym p.0))

pub marked-none : (s : List ℕ) (marks : List Bool) (v n : ℕ) → Marked s marks v (replicate n false)
marked-none s marks v n = record { held = λ b e j hj. absurd (never (sym e ∙ replicate-same n b false)) }
  where
    never : ◌≡◌ {A = Bool} true false → ⊥
    never e = let z : ◌≡◌ {A = ℕ} 0 1 = cc in omega arith

-- one more block that is marked throughout
pub marked_more : {s : List ℕ} {marks blocks : List Bool} {v at : ℕ} (b : ℕ) → Marked s marks v blocks → 512 * b ≡ at → Lower s v at 512 → all_below 512 (λ j. get_or marks (member_word s (at + j) 1) false) ≡ true → Marked s marks v (set blocks b true)
marked_more {s} {marks} {blocks} {v} {at} b m q l a = record { held = λ j e i hi. go j e i hi (set_get false blocks b j true) }
  where
    here : (j : ℕ) → j ≡ b → at ≡ 512 * j
    here j e = sym q ∙ ap (λ (a : ℕ). 512 * a) (sym e)

    go : (j : ℕ) → get_or (set blocks b true) j false ≡ true → (i : ℕ) → i < 512 → ((get_or (set blocks b true) j false ≡ get_or blocks j false) ⊎ ((j ≡ b) × (get_or (set blocks b true) j false ≡ true))) → (member_word s (512 * j + i) 1 < v) × (get_or marks (member_word s (512 * j + i) 1) false ≡ true)
    go j e i hi (inl p) = m.held j (sym p ∙ e) i hi
    go j e i hi (inr p) = (rw (here j p.0) at (l.lower i hi), rw (here j p.0) at (all-at (λ j. get_or marks (member_word s (at + j) 1) false) 512 i a hi))

-- one more value
pub marked_next : {s : List ℕ} {marks blocks : List Bool} {v at : ℕ} (x : Bool) → at ≡ v → Marked s marks v blocks → Marked s (set marks at x) (v + 1) blocks
marked_next {marks = marks} {at = at} x q m =
    record { held = λ b e j hj. let h = m.held b e j hj in (omega (arith, h.0), get_or-set_other marks at _ x false (λ z. absurd (omega (arith, h.0))) ∙ h.1) }
