-- Two values of a checked case: unlike kinds, leaves, and parts one after another
use mathlib.Core.Path.{◌≡◌, refl, sym, ◌∙◌, ap}
use mathlib.Core.Bool.{Bool, true, false, not}
use mathlib.Core.List.{List, [], ◌∷◌, map}
use Prim.Native.Nat.{ℕ, zero, suc, ◌+◌, ◌*◌, ◌-◌, ◌<◌, ◌≤◌}
use native.Mathlib.Omega.{arith}
use lib.Dec.{eqb, ltb, lit<}
use mir.Val.{to_z, of_z, Fits}
use mir.Facts.{of_z-to_z}
use mir.Syntax.{w64}
use borrow.Author.Tests.{ltb-true, ltb-false, eq-eqb, ne_eqb, eqb-true, eqb-false, not-true, not-false}
use Rattle.meaning.specs.declared.ValNo.{ValNo}
use Rattle.meaning.specs.Tests.{◌and◌, pick}
use Rattle.meaning.specs.Case.{Case, Part, values, value_word, member_word, part_at, value_at, value_from, signed, places, case_of}
use Rattle.meaning.specs.Check.{Checked, part_value}
use Rattle.meaning.specs.Equal.{see, seen, alike, same_list, same_parts, same_value, decimal_key}
use Rattle.laws.specs.Tests.{stop, skip, pass, after, all-at, and-true}
use Rattle.laws.specs.Lists.{Every, every_map}
use Rattle.laws.specs.Bodies.{wholes, body-beyond}
use Rattle.laws.specs.Values.{held, holder}
use Rattle.laws.specs.Values as Values
use Rattle.laws.specs.Checked.{checked-bodies, checked-values, values-most, lower-parts, same_value-is}
use Rattle.equality.specs.declared.Runs.{Runs}
use Rattle.std.specs.Prelude.{Option as Maybe, Some, None}
use Rattle.std.proofs.Common.{ControlFlow, Break, Continue}
use Rattle.equality.specs.Joined.{Holders, Headed, Paired, Glanced, Looked}
use Rattle.equality.specs.Places.{open_place, shut-place}
use Rattle.laws.specs.Text.{list_same}

pub value_none : {s : List ℕ} → Checked s → (v j : ℕ) → values s ≤ v → value_word s v j ≡ 0
unfolding value_word pick
value_none {s} c v j l = body-beyond s (checked-bodies c) 1 (4 * v + j) (lit< tt) (omega (arith, wholes s (checked-bodies c) 1 (lit< tt)))

pub kind-small : {s : List ℕ} → Checked s → (v : ℕ) → value_word s v 0 < 8
kind-small {s} c v = go (ltb v (values s)) refl
  where
    go : (b : Bool) → ltb v (values s) ≡ b → value_word s v 0 < 8
    go true e = (Values.runs s v (ltb-true v (values s) e) (all-at _ _ v (checked-values c) (ltb-true v (values s) e))).kinds
    go false e = omega (arith, value_none c v 0 (ltb-false v (values s) e))

seen-kind : (c : Case) (part : ℕ → Part) (k a b : ℕ) → k < 8 → (see c (value_from part k a b)).kind ≡ k
unfolding see seen value_from pick
seen-kind c part zero a b h = refl
seen-kind c part (suc zero) a b h = refl
seen-kind c part (suc (suc zero)) a b h = refl
seen-kind c part (suc (suc (suc zero))) a b h = refl
seen-kind c part (suc (suc (suc (suc zero)))) a b h = refl
seen-kind c part (suc (suc (suc (suc (suc zero))))) a b h = refl
seen-kind c part (suc (suc (suc (suc (suc (suc zero)))))) a b h = refl
seen-kind c part (suc (suc (suc (suc (suc (suc (suc zero))))))) a b h = refl
seen-kind c part (suc (suc (suc (suc (suc (suc (suc (suc k)))))))) a b h = absurd (omega arith)

pub kind-is : {s : List ℕ} → Checked s → (v : ℕ) → (see (case_of s) (value_at s v)).kind ≡ value_word s v 0
unfolding value_at
kind-is {s} c v = seen-kind (case_of s) (part_at s) (value_word s v 0) (value_word s v 1) (value_word s v 2) (kind-small c v)

pub unlike : (s : List ℕ) (a b k m : ℕ) → Checked s → k ≡ value_word s a 0 → m ≡ value_word s b 0 → (k ≡ m → ⊥) → false ≡ same_value (case_of s) a b
unfolding alike
unlike s a b k m c ek em ne =
    sym (same_value-is c a b ∙ stop _ (ne_eqb _ _ (λ e. ne (ek ∙ sym (kind-is c a) ∙ e ∙ kind-is c b ∙ sym em))))

-- ---- a value equals itself

parts_self : (eq : ℕ → ℕ → Bool) (ps : List Part) → Every (λ j. eq j j ≡ true) (held ps) → same_parts eq ps ps ≡ true
unfolding same_parts held
parts_self eq [] e = refl
parts_self eq (p ∷ ps) e = pass (eq-eqb p.name p.name refl) (pass e.0 (parts_self eq ps e.1))

self_below : {s : List ℕ} → Checked s → (bound v : ℕ) → v < bound → same_value (case_of s) v v ≡ true
unfolding alike
self_below c zero v h = absurd (omega arith)
self_below {s} c (suc bound) v h =
    let seen-v = see (case_of s) (value_at s v) in
    same_value-is c v v
    ∙ pass (eq-eqb seen-v.kind seen-v.kind refl)
    (pass (list_same seen-v.key seen-v.key refl)
    (parts_self (same_value (case_of s)) seen-v.parts
    (every_map (held seen-v.parts) (λ j hj. self_below c bound j (omega arith)) (lower-parts c v))))

pub same_number : (s : List ℕ) (a b : ℕ) → Checked s → a ≡ b → true ≡ same_value (case_of s) a b
same_number s a b c e = sym (rw (← e) (self_below c (suc a) a (omega arith)))

-- ---- leaves

pub alike-leaf : (eq : ℕ → ℕ → Bool) (k : ℕ) (l m : List ℕ) → alike eq (seen k l []) (seen k m []) ≡ same_list l m
unfolding alike seen same_parts
alike-leaf eq k l m = after (eq-eqb k k refl) ∙ and-true (same_list l m)

pub one_same : (x y : ℕ) → same_list (x ∷ []) (y ∷ []) ≡ eqb x y
unfolding same_list
one_same x y = and-true (eqb x y)

module _ (s : List ℕ) (a b k x y : ℕ) (c : Checked s) (ka : value_word s a 0 ≡ k) (kb : value_word s b 0 ≡ k) (ex : x ≡ value_word s a 1) (ey : y ≡ value_word s b 1) where
  two_is : (n p q : ℕ) → k ≡ n → p ≡ value_word s a 2 → q ≡ value_word s b 2 → same_value (case_of s) a b ≡ alike (same_value (case_of s)) (see (case_of s) (value_from (part_at s) n x p)) (see (case_of s) (value_from (part_at s) n y q))
  unfolding value_at
  two_is n p q e ep eq = same_value-is c a b ∙ rw (ka, kb, e, ← ex, ← ey, ← ep, ← eq) refl

  one-is : (n : ℕ) → k ≡ n → same_value (case_of s) a b ≡ alike (same_value (case_of s)) (see (case_of s) (value_from (part_at s) n x (value_word s a 2))) (see (case_of s) (value_from (part_at s) n y (value_word s b 2)))
  one-is n e = two_is n (value_word s a 2) (value_word s b 2) e refl refl

  pub leaf_null : k ≡ 0 → true ≡ same_value (case_of s) a b
  unfolding see value_from pick same_list
  leaf_null e = sym (one-is 0 e ∙ alike-leaf _ 0 [] [])

  pub leaf-int : (p q m n : ℕ) → k ≡ 2 → p ≡ value_word s a 2 → q ≡ value_word s b 2 → m ≡ x + 4294967296 * p → n ≡ y + 4294967296 * q → Fits w64 m → Fits w64 n → eqb m n ≡ same_value (case_of s) a b
  unfolding see value_from pick signed
  leaf-int p q m n e ep eq em en hm hn =
      let l = of_z w64 (to_z w64 m) in
      let r = of_z w64 (to_z w64 n) in
      let parts : same_value (case_of s) a b ≡ same_list (l ∷ []) (r ∷ []) = two_is 2 p q e ep eq ∙ rw (← em, ← en) (alike-leaf (same_value (case_of s)) 2 (l ∷ []) (r ∷ [])) in
      let bits : same_list (l ∷ []) (r ∷ []) ≡ eqb m n = rw (of_z-to_z {w = w64} {n = m} hm, of_z-to_z {w = w64} {n = n} hn) (one_same m n) in
      sym (parts ∙ bits)

  pub leaf-decimal : (r : Bool) → k ≡ 3 → r ≡ same_list (decimal_key (case_of s) x) (decimal_key (case_of s) y) → r ≡ same_value (case_of s) a b
  unfolding see value_from pick
  leaf-decimal r e h = h ∙ sym (one-is 3 e ∙ alike-leaf _ 3 (decimal_key (case_of s) x) (decimal_key (case_of s) y))

  leaf-entity : (p q : ℕ) (r : Bool) → k ≡ 5 → p ≡ value_word s a 2 → q ≡ value_word s b 2 → r ≡ (eqb x y and eqb p q) → r ≡ same_value (case_of s) a b
  unfolding see value_from pick same_list
  leaf-entity p q r e ep eq h = h ∙ sym (two_is 5 p q e ep eq ∙ alike-leaf _ 5 (x ∷ p ∷ []) (y ∷ q ∷ []) ∙ ap (λ (t : Bool). eqb x y and t) (and-true (eqb p q)))

  pub entity-first : (p q : ℕ) → k ≡ 5 → p ≡ value_word s a 2 → q ≡ value_word s b 2 → x ≡ y → eqb p q ≡ same_value (case_of s) a b
  entity-first p q e ep eq h = leaf-entity p q (eqb p q) e ep eq (sym (after (eq-eqb x y h)))

  pub entity-other : k ≡ 5 → (x ≡ y → ⊥) → false ≡ same_value (case_of s) a b
  entity-other e h = leaf-entity (value_word s a 2) (value_word s b 2) false e refl refl (sym (stop _ (ne_eqb x y h)))

  leaf_bool : k ≡ 1 → eqb x y ≡ same_value (case_of s) a b
  unfolding see value_from pick
  leaf_bool e = sym (one-is 1 e ∙ alike-leaf (same_value (case_of s)) 1 (x ∷ []) (y ∷ []) ∙ one_same x y)

  leaf-text : k ≡ 4 → eqb x y ≡ same_value (case_of s) a b
  unfolding see value_from pick
  leaf-text e = sym (one-is 4 e ∙ alike-leaf (same_value (case_of s)) 4 (x ∷ []) (y ∷ []) ∙ one_same x y)

  pub leaf-other : k < 6 → (k ≡ 0 → ⊥) → (k ≡ 2 → ⊥) → (k ≡ 3 → ⊥) → (k ≡ 5 → ⊥) → eqb x y ≡ same_value (case_of s) a b
  leaf-other h h0 h2 h3 h5 = go (eqb k 1) refl
    where
      go : (t : Bool) → eqb k 1 ≡ t → eqb x y ≡ same_value (case_of s) a b
      go true e = leaf_bool (eqb-true k 1 e)
      go false e = let ne = eqb-false k 1 e in let f : k ≡ 4 = omega arith in leaf-text f

  -- ---- arrays and objects

  alike-held : (n : ℕ) (ps qs : List Part) → alike (same_value (case_of s)) (seen n [] ps) (seen n [] qs) ≡ same_parts (same_value (case_of s)) ps qs
  unfolding alike seen same_list
  alike-held n ps qs = after (eq-eqb n n refl) ∙ after refl

  parts-array : (p q : ℕ) → k ≡ 6 → p ≡ value_word s a 2 → q ≡ value_word s b 2 → same_value (case_of s) a b ≡ same_parts (same_value (case_of s)) (map (part_at s) (places x 1 p)) (map (part_at s) (places y 1 q))
  unfolding see value_from pick
  parts-array p q e ep eq = two_is 6 p q e ep eq ∙ alike-held 6 (map (part_at s) (places x 1 p)) (map (part_at s) (places y 1 q))

  parts-object : (p q : ℕ) → k ≡ 7 → p ≡ value_word s a 2 → q ≡ value_word s b 2 → same_value (case_of s) a b ≡ same_parts (same_value (case_of s)) (map (part_at s) (places x 1 p)) (map (part_at s) (places y 1 q))
  unfolding see value_from pick
  parts-object p q e ep eq = two_is 7 p q e ep eq ∙ alike-held 7 (map (part_at s) (places x 1 p)) (map (part_at s) (places y 1 q))

  parts_are : (p q : ℕ) → 6 ≤ k → p ≡ value_word s a 2 → q ≡ value_word s b 2 → same_value (case_of s) a b ≡ same_parts (same_value (case_of s)) (map (part_at s) (places x 1 p)) (map (part_at s) (places y 1 q))
  parts_are p q h ep eq = go (eqb k 6) refl
    where
      go : (t : Bool) → eqb k 6 ≡ t → same_value (case_of s) a b ≡ same_parts (same_value (case_of s)) (map (part_at s) (places x 1 p)) (map (part_at s) (places y 1 q))
      go true e = parts-array p q (eqb-true k 6 e) ep eq
      go false e = let ne = eqb-false k 6 e in let z : k ≡ 7 = omega (arith, kind-small c a) in parts-object p q z ep eq

longer : (eq : ℕ → ℕ → Bool) (part : ℕ → Part) (p q n m : ℕ) → (n ≡ m → ⊥) → same_parts eq (map part (places p 1 n)) (map part (places q 1 m)) ≡ false
unfolding same_parts places
longer eq part p q zero zero h = absurd (h refl)
longer eq part p q zero (suc m) h = refl
longer eq part p q (suc n) zero h = refl
longer eq part p q (suc n) (suc m) h =
    skip (eqb (part p).name (part q).name) (skip (eq (part p).value (part q).value) (longer eq part (p + 1) (q + 1) n m (λ e. h (ap suc e))))

-- the parts of two runs of n members
unfoldable pub same_runs : List ℕ → ℕ → ℕ → ℕ → Bool
same_runs s p q n = same_parts (same_value (case_of s)) (map (part_at s) (places p 1 n)) (map (part_at s) (places q 1 n))

holders : {s : List ℕ} {a b k j n m p q : ℕ} → Checked s → k ≡ value_word s a 0 → j ≡ value_word s b 0 → k ≡ j → 6 ≤ k → n ≡ value_word s a 2 → m ≡ value_word s b 2 → p ≡ value_word s a 1 → q ≡ value_word s b 1 → Holders s a b n m p q
holders c ek ej e h en em ep eq =
    record { checked = c; kind = omega arith; kinds = sym ek ∙ e ∙ ej; count = en; other = em; start = ep; start-other = eq }

module _ (s : List ℕ) (a b n m p q : ℕ) (h : Holders s a b n m p q) where
  held-is : same_value (case_of s) a b ≡ same_parts (same_value (case_of s)) (map (part_at s) (places p 1 n)) (map (part_at s) (places q 1 m))
  held-is = parts_are s a b (value_word s a 0) p q h.checked refl (sym h.kinds) h.start h.start-other n m h.kind h.count h.other

  counts-differ : (n ≡ m → ⊥) → false ≡ same_value (case_of s) a b
  counts-differ ne = sym (held-is ∙ longer (same_value (case_of s)) (part_at s) p q n m ne)

  runs-are : n ≡ m → same_runs s p q n ≡ same_value (case_of s) a b
  unfolding same_runs
  runs-are e = sym (held-is ∙ rw (← e) refl)

  turned : Holders s b a m n q p
  turned = record { checked = h.checked; kind = omega (arith, h.kind, h.kinds); kinds = sym h.kinds; count = h.other; other = h.count; start = h.start-other; start-other = h.start }

  inside : a < values s
  inside = go (ltb a (values s)) refl
    where
      go : (t : Bool) → ltb a (values s) ≡ t → a < values s
      go true e = ltb-true a (values s) e
      go false e = absurd (omega (arith, h.kind, value_none h.checked a 0 (ltb-false a (values s) e)))

  holder_in : a < 16384
  holder_in = omega (arith, inside, values-most h.checked)

  -- each part of a has a lower number
  part-lower : (i x : ℕ) → i < n → x ≡ member_word s (p + i) 1 → x < a
  part-lower i x hi ex =
      let k = holder s a h.kind (kind-small h.checked a) in
      let z : member_word s (value_word s a 1 + i) 1 < a = unfold part_value in (Values.runs s a inside (all-at _ _ a (checked-values h.checked) inside)).lower i (omega (arith, h.count)) in
      let y : member_word s (p + i) 1 ≡ member_word s (value_word s a 1 + i) 1 = rw h.start refl in
      omega arith

-- ---- what two values show at a glance

module _ {s : List ℕ} {a b : ℕ} where
  glance_yes : true ≡ same_value (case_of s) a b → Glanced s a b (Some true)
  glance_yes e = record { same = λ _. e; differ = λ q. cc }

  glance_no : false ≡ same_value (case_of s) a b → Glanced s a b (Some false)
  glance_no e = record { same = λ q. cc; differ = λ _. e }

  pub glance_open : Glanced s a b None
  glance_open = record { same = λ q. cc; differ = λ q. cc }

  pub glance_number : Checked s → a ≡ b → Glanced s a b (Some true)
  glance_number c e = glance_yes (same_number s a b c e)

  module _ {k j : ℕ} (c : Checked s) (ek : k ≡ value_word s a 0) (ej : j ≡ value_word s b 0) where
    pub glance_unlike : (k ≡ j → ⊥) → Glanced s a b (Some false)
    glance_unlike ne = glance_no (unlike s a b k j c ek ej ne)

    module _ {x y p q : ℕ} (e : k ≡ j) (ep : p ≡ value_word s a 2) (eq : q ≡ value_word s b 2) (ex : x ≡ value_word s a 1) (ey : y ≡ value_word s b 1) where
      pub glance_same : x ≡ y → p ≡ q → Glanced s a b (Some true)
      unfolding value_at
      glance_same f g =
          let kinds : value_word s a 0 ≡ value_word s b 0 = sym ek ∙ e ∙ ej in
          let firsts : value_word s a 1 ≡ value_word s b 1 = sym ex ∙ f ∙ ey in
          let seconds : value_word s a 2 ≡ value_word s b 2 = sym ep ∙ g ∙ eq in
          glance_yes (same_number s b b c refl ∙ same_value-is c b b ∙ sym (same_value-is c a b ∙ rw (kinds, firsts, seconds) refl))

      pub glance_int : (x ≡ y → ⊥) → k ≡ 2 → x < 4294967296 → y < 4294967296 → p < 4294967296 → q < 4294967296 → Glanced s a b (Some false)
      glance_int ne z hx hy hp hq =
          let m = x + 4294967296 * p in
          let n = y + 4294967296 * q in
          let apart : eqb m n ≡ false = ne_eqb m n (λ f. ne (omega arith)) in
          glance_no (sym apart ∙ leaf-int s a b k x y c (sym ek) (sym (e ∙ ej)) ex ey p q m n z ep eq refl refl (record { fits = omega arith }) (record { fits = omega arith }))

      pub glance_text : (x ≡ y → ⊥) → k ≡ 4 → Glanced s a b (Some false)
      glance_text ne z = glance_no (sym (ne_eqb x y ne) ∙ leaf-text s a b k x y c (sym ek) (sym (e ∙ ej)) ex ey z)

-- ---- what two values show at once

module _ {s : List ℕ} {a b : ℕ} where
  pub head-told : {r : Bool} → r ≡ same_value (case_of s) a b → Headed s a b (Break r)
  head-told e = record { said = λ r k. cc; left = λ r k. cc }

  pub head-same : Checked s → a ≡ b → Headed s a b (Break true)
  head-same c e = head-told (same_number s a b c e)

  pub head-unlike : {k m : ℕ} → Checked s → k ≡ value_word s a 0 → m ≡ value_word s b 0 → (k ≡ m → ⊥) → Headed s a b (Break false)
  head-unlike {k} {m} c ek em ne = head-told (unlike s a b k m c ek em ne)

  pub head-counts : {k j n m : ℕ} → Checked s → k ≡ value_word s a 0 → j ≡ value_word s b 0 → k ≡ j → 6 ≤ k → n ≡ value_word s a 2 → m ≡ value_word s b 2 → (n ≡ m → ⊥) → Headed s a b (Break false)
  head-counts c ek ej e l en em ne = head-told (counts-differ s a b _ _ _ _ (holders c ek ej e l en em refl refl) ne)

pub head-runs : {s : List ℕ} {a b k j n m p q : ℕ} → Checked s → k ≡ value_word s a 0 → j ≡ value_word s b 0 → k ≡ j → 6 ≤ k → n ≡ value_word s a 2 → m ≡ value_word s b 2 → n ≡ m → p ≡ value_word s a 1 → q ≡ value_word s b 1 → Headed s a b (Continue (record { n = n; p = p; q = q }))
head-runs {s} {a} {b} {k} {j} {n} {m} {p} {q} c ek ej e l en em enm ep eq =
    record { said = λ r t. cc; left = λ r t. go r t }
  where
    go : (r : Runs) → ◌≡◌ {A = ControlFlow Bool Runs} (Continue (record { n = n; p = p; q = q })) (Continue r) → Holders s a b r.n r.n r.p r.q
    go r t = let z : record { n = n; p = p; q = q } ≡ r = cc in rw (← z) (holders c ek ej e l en (enm ∙ em) ep eq)

module _ {s : List ℕ} {u v x y : ℕ} (p q i : ℕ) (eu : u ≡ p + i) (ev : v ≡ q + i) (ex : x ≡ member_word s u 0) (ey : y ≡ member_word s v 0) where
  pub pair_none : (x ≡ y → ⊥) → Paired s (p + i) (q + i) None
  pair_none ne = record { unnamed = λ k. rw (← eu, ← ev, ← ex, ← ey) (ne_eqb x y ne); named = λ m k. cc; left = λ m k. cc; right = λ m k. cc }

  pub pair_some : {a b : ValNo} → x ≡ y → a.0 ≡ member_word s u 1 → b.0 ≡ member_word s v 1 → Paired s (p + i) (q + i) (Some (a, b))
  pair_some {a} {b} e ea eb = record {
    unnamed = λ k. cc;
    named = λ m k. rw (← eu, ← ev, ← ex, ← ey) (eq-eqb x y e);
    left = λ m k. let z : (a, b) ≡ m = cc in rw (← z, ← eu) ea;
    right = λ m k. let z : (a, b) ≡ m = cc in rw (← z, ← ev) eb;
  }

-- ---- one part after another

-- what is left of two runs at i
abbrev rest : List ℕ → ℕ → ℕ → ℕ → ℕ → Bool
rest s p q n i = same_parts (same_value (case_of s)) (map (part_at s) (places (p + i) 1 (n - i))) (map (part_at s) (places (q + i) 1 (n - i)))

-- is what is to be said of them
pub record PartsFrom (s : List ℕ) (p q n i : ℕ) : Type 0 where
  pub inside : i ≤ n
  pub left : rest s p q n i ≡ same_runs s p q n

pub parts-start : {s : List ℕ} {p q n : ℕ} → PartsFrom s p q n 0
unfolding same_runs
parts-start {s} {p} {q} {n} =
    let x : p + 0 ≡ p = omega arith in
    let y : q + 0 ≡ q = omega arith in
    let z : n - 0 ≡ n = omega arith in
    record { inside = omega arith; left = rw (x, y, z) refl }

module _ (s : List ℕ) (p q n i : ℕ) (from : PartsFrom s p q n i) where
  part_open : i < n → same_runs s p q n ≡ (eqb (member_word s (p + i) 0) (member_word s (q + i) 0) and same_value (case_of s) (member_word s (p + i) 1) (member_word s (q + i) 1) and rest s p q n (i + 1))
  unfolding same_parts part_at
  part_open h =
      let x : p + (i + 1) ≡ p + i + 1 = omega arith in
      let y : q + (i + 1) ≡ q + i + 1 = omega arith in
      sym from.left ∙ rw (open_place (p + i) 1 n i (p + (i + 1)) h x, open_place (q + i) 1 n i (q + (i + 1)) h y) refl

-- two arrays or objects a and b, whose members before i are alike
pub record Going (s : List ℕ) (a b : ℕ) (h : Runs) (i : ℕ) : Type 0 where
  pub holders : Holders s a b h.n h.n h.p h.q
  pub from : PartsFrom s h.p h.q h.n i

-- values with members are in the table
module _ {s : List ℕ} {a b : ℕ} {h : Runs} {x : ControlFlow Bool Runs} (f : Headed s a b x) (k : x ≡ Continue h) where
  pub left_in : a < 16384
  left_in = holder_in s a b h.n h.n h.p h.q (f.left h k)

  pub right_in : b < 16384
  right_in = holder_in s b a h.n h.n h.q h.p (turned s a b h.n h.n h.p h.q (f.left h k))

pub go-start : {s : List ℕ} {a b : ℕ} {h : Runs} {x : ControlFlow Bool Runs} → Headed s a b x → x ≡ Continue h → Going s a b h 0
go-start {h = h} f k = record { holders = f.left h k; from = parts-start }

module _ {s : List ℕ} {a b i : ℕ} {h : Runs} (g : Going s a b h i) where
  runs : same_runs s h.p h.q h.n ≡ same_value (case_of s) a b
  runs = runs-are s a b h.n h.n h.p h.q g.holders refl

  pub go-end : h.n ≤ i → true ≡ same_value (case_of s) a b
  unfolding same_parts
  go-end l = (rw (shut-place (h.p + i) 1 h.n i l, shut-place (h.q + i) 1 h.n i l) at g.from.left) ∙ runs

  module _ {o : Maybe (ValNo × ValNo)} (l : i < h.n) (e : Paired s (h.p + i) (h.q + i) o) where
    members : same_runs s h.p h.q h.n ≡ (eqb (member_word s (h.p + i) 0) (member_word s (h.q + i) 0) and same_value (case_of s) (member_word s (h.p + i) 1) (member_word s (h.q + i) 1) and rest s h.p h.q h.n (i + 1))
    members = part_open s h.p h.q h.n i g.from l

    pub go-name : o ≡ None → false ≡ same_value (case_of s) a b
    go-name ne = sym (sym runs ∙ members ∙ stop _ (e.unnamed ne))

    module _ {c d : ValNo} (k : o ≡ Some (c, d)) where
      pub go-no : {r : Bool} → r ≡ same_value (case_of s) c.0 d.0 → not r ≡ true → false ≡ same_value (case_of s) a b
      go-no {r} er np = sym (sym runs ∙ members ∙ skip _ (stop _ (rw (e.left (c, d) k, e.right (c, d) k) at (sym er ∙ not-true r np))))

      pub go-more : {r : Bool} → r ≡ same_value (case_of s) c.0 d.0 → not r ≡ false → Going s a b h (i + 1)
      go-more {r} er np =
          record {
            holders = g.holders;
            from = record {
              inside = omega arith;
              left = sym (members ∙ after (e.named (c, d) k) ∙ after (rw (e.left (c, d) k, e.right (c, d) k) at (sym er ∙ not-false r np)));
            };
          }

      -- the members at i have lower numbers
      left-lower : c.0 < a
      left-lower = part-lower s a b h.n h.n h.p h.q g.holders i c.0 l (e.left (c, d) k)

      pub go-falls : {z : ℕ} → a ≡ z → c.0 < z
      go-falls q = omega (arith, left-lower)

-- ---- a plain way, while some of it is left

-- the members of two runs before i are alike, and some is left
pub record Looking (s : List ℕ) (left : ℕ) (h : Runs) (i : ℕ) : Type 0 where
  pub from : PartsFrom s h.p h.q h.n i
  pub some : 0 < left

pub look-start : {s : List ℕ} {left n : ℕ} {h : Runs} → n < left → Looking s (left - n) h 0
look-start l = record { from = parts-start; some = omega arith }

look-told : {s : List ℕ} {left x y a b : ℕ} {r : Bool} → 0 < left → r ≡ same_value (case_of s) a b → Looked s left x y a b r
look-told l e = record { some = λ _. e; none = λ z. absurd (omega arith) }

pub look-said : {s : List ℕ} {left x y a b : ℕ} {h : ControlFlow Bool Runs} {r : Bool} → 0 < left → Headed s a b h → h ≡ Break r → Looked s left x y a b r
look-said {r = r} l f k = look-told l (f.said r k)

-- nothing is left: x and y were compared
pub look-whole : {s : List ℕ} {x y a b : ℕ} {r : Bool} → r ≡ same_value (case_of s) x y → Looked s 0 x y a b r
look-whole e = record { some = λ l. absurd (omega arith); none = λ _. e }

pub look-spent : {s : List ℕ} {left x y a b d e : ℕ} {r : Bool} → Looked s left x y d e r → left ≡ 0 → Looked s left x y a b r
look-spent o z = record { some = λ l. absurd (omega arith); none = o.none }

pub look-all : {s : List ℕ} {left a b : ℕ} {r : Bool} → Looked s left a b a b r → r ≡ same_value (case_of s) a b
look-all {s} {left} {a} {b} {r} o = go (eqb left 0) refl
  where
    go : (t : Bool) → eqb left 0 ≡ t → r ≡ same_value (case_of s) a b
    go true e = o.none (eqb-true left 0 e)
    go false e = let ne = eqb-false left 0 e in o.some (omega arith)

module _ {s : List ℕ} {left a b i : ℕ} {h : Runs} {w : ControlFlow Bool Runs} (f : Headed s a b w) (k : w ≡ Continue h) (g : Looking s left h i) where
  going : Going s a b h i
  going = record { holders = f.left h k; from = g.from }

  pub look-end : {x y : ℕ} → h.n ≤ i → Looked s left x y a b true
  look-end l = look-told g.some (go-end going l)

  module _ {o : Maybe (ValNo × ValNo)} (l : i < h.n) (e : Paired s (h.p + i) (h.q + i) o) where
    pub look-name : {x y : ℕ} → o ≡ None → Looked s left x y a b false
    look-name ne = look-told g.some (go-name going l e ne)

    module _ {c d : ValNo} (j : o ≡ Some (c, d)) where
      pub look-falls : {z : ℕ} → a ≡ z → c.0 < z
      look-falls = go-falls going l e j

      module _ {r : Maybe Bool} (t : Glanced s c.0 d.0 r) where
        pub look-same : {u : Bool} → r ≡ Some u → u ≡ true → Looking s left h (i + 1)
        look-same n f = let q : r ≡ Some true = cc in record { from = (go-more going l e j (t.same q) refl).from; some = g.some }

        pub look-differ : {x y : ℕ} {u : Bool} → r ≡ Some u → u ≡ false → Looked s left x y a b false
        look-differ n f = let q : r ≡ Some false = cc in look-told g.some (go-no going l e j (t.differ q) refl)

      module _ {rest x y : ℕ} {r : Bool} (t : Looked s rest x y c.0 d.0 r) (z : rest ≡ 0 → ⊥) where
        pub look-no : not r ≡ true → Looked s rest x y a b false
        look-no q = let p : 0 < rest = omega arith in look-told p (go-no going l e j (t.some p) q)

        pub look-more : not r ≡ false → Looking s rest h (i + 1)
        look-more q = let p : 0 < rest = omega arith in record { from = (go-more going l e j (t.some p) q).from; some = p }
