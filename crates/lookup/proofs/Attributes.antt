-- An entity's attributes, its own parts, and what a path reaches from a root
use mathlib.Core.Path.{◌≡◌, refl, sym, ◌∙◌, ap}
use mathlib.Core.Bool.{Bool, true, false, ◌&&◌}
use mathlib.Core.List.{List, [], ◌∷◌, map}
use mathlib.Core.Option.{Option, none, some}
use Prim.Native.Nat.{ℕ, zero, suc, ◌+◌, ◌*◌, ◌-◌, ◌<◌, ◌≤◌}
use native.Mathlib.Omega.{arith}
use lib.Dec.{eqb}
use lib.ListN.{length}
use lib.Pointwise.{pointwise}
use borrow.Author.Tests.{eq-eqb, ne_eqb}
use Rattle.meaning.specs.declared.Run.{Run}
use Rattle.meaning.specs.declared.Root.{Root}
use Rattle.meaning.specs.declared.Root.TheVariants.{Principal, Resource}
use Rattle.meaning.specs.declared.ValNo.{ValNo}
use Rattle.meaning.specs.Tests.{◌and◌, pick, or_else, only_if}
use Rattle.meaning.specs.Case.{Part, Point, Attributes, maybe, text, value_word, point_word, value_at, value_from, part_at, point_at, entity_at, places, list, case_of}
use Rattle.meaning.specs.Equal.{Bound, same_list, bound_of, part}
use Rattle.meaning.specs.Look.{lookup, bound_at, attributes_of, own_part, supplied, entity_of, attribute, from_root, root_of, scope_at}
use Rattle.meaning.specs.Rows.{in_cells}
use Rattle.meaning.specs.Meaning.{names}
use Rattle.laws.specs.Tests.{stop, skip, after, and-true}
use Rattle.std.specs.Prelude.{Option as Maybe, Some, None}
use Rattle.lookup.specs.Paths.{found_at}
use Rattle.equality.specs.Places.{open_place, shut-place}
use Rattle.equality.specs.Places.{value_as}
use Rattle.lookup.proofs.Reach.{names-are}

-- ---- the attribute object

attributes-by : (t i : ℕ) (e : Attributes) (es : List Attributes) (b : Bool) → (eqb t e.type and eqb i e.id) ≡ b → attributes_of t i (e ∷ es) ≡ elim b as (λ b. Option ℕ) [ true ↦ some e.object | false ↦ attributes_of t i es ]
unfolding attributes_of
attributes-by t i e es b h = ap (λ (b : Bool). elim b as (λ b. Option ℕ) [ true ↦ some e.object | false ↦ attributes_of t i es ]) h

pub record EntityFrom (s : List ℕ) (t i first count k : ℕ) : Type 0 where
  pub inside : k ≤ count
  pub rest : attributes_of t i (map (entity_at s) (places (first + 3 * k) 3 (count - k))) ≡ attributes_of t i (map (entity_at s) (places first 3 count))

pub entity-start : (s : List ℕ) (t i first count : ℕ) → EntityFrom s t i first count 0
entity-start s t i first count =
    let x : first + 3 * 0 ≡ first = omega arith in
    let z : count - 0 ≡ count = omega arith in
    record { inside = omega arith; rest = rw (x, z) refl }

-- first and count are the words x and y, in a wider type
entities-are : (s : List ℕ) (p first count x y : ℕ) → first ≡ x → x ≡ point_word s p 10 → count ≡ y → y ≡ point_word s p 11 → (point_at s p).entities ≡ map (entity_at s) (places first 3 count)
unfolding point_at
entities-are s p first count x y ef ex ec ey = rw (ef, ex, ec, ey) refl

module _ (s : List ℕ) (t i first count k : ℕ) (from : EntityFrom s t i first count k) where
  entity-open : (b : Bool) → k < count → (eqb t (list s (first + 3 * k)) and eqb i (list s (first + 3 * k + 1))) ≡ b → attributes_of t i (map (entity_at s) (places first 3 count)) ≡ elim b as (λ b. Option ℕ) [ true ↦ some (list s (first + 3 * k + 2)) | false ↦ attributes_of t i (map (entity_at s) (places (first + 3 * (k + 1)) 3 (count - (k + 1)))) ]
  unfolding entity_at
  entity-open b h e =
      let x : first + 3 * (k + 1) ≡ first + 3 * k + 3 = omega arith in
      let open_at : places (first + 3 * k) 3 (count - k) ≡ (first + 3 * k) ∷ places (first + 3 * (k + 1)) 3 (count - (k + 1)) = open_place (first + 3 * k) 3 count k (first + 3 * (k + 1)) h x in
      let cut : map (entity_at s) (places (first + 3 * k) 3 (count - k)) ≡ entity_at s (first + 3 * k) ∷ map (entity_at s) (places (first + 3 * (k + 1)) 3 (count - (k + 1))) = ap (map (entity_at s)) open_at in
      sym from.rest ∙ ap (attributes_of t i) cut ∙ attributes-by t i (entity_at s (first + 3 * k)) (map (entity_at s) (places (first + 3 * (k + 1)) 3 (count - (k + 1)))) b e

  module _ (x y : ℕ) (r : Bool) (h : k < count) (ex : x ≡ list s (first + 3 * k)) (ey : y ≡ list s (first + 3 * k + 1)) (er : r ≡ (eqb t x and eqb i y)) where
    test : (eqb t (list s (first + 3 * k)) and eqb i (list s (first + 3 * k + 1))) ≡ r
    test = sym (er ∙ rw (ex, ey) refl)

    passed : r ≡ false → EntityFrom s t i first count (k + 1)
    passed e = record { inside = omega arith; rest = sym (entity-open false h (test ∙ e)) }

    found-so : (p u w : ℕ) (v : ValNo) → first ≡ u → u ≡ point_word s p 10 → count ≡ w → w ≡ point_word s p 11 → v.0 ≡ list s (first + 3 * k + 2) → r ≡ true → found_at (Some v) ≡ attributes_of t i (point_at s p).entities
    unfolding found_at
    found-so p u w v ef eu ec ew ev e = ap some ev ∙ sym (ap (attributes_of t i) (entities-are s p first count u w ef eu ec ew) ∙ entity-open true h (test ∙ e))

  module _ (x : ℕ) (h : k < count) (ex : x ≡ list s (first + 3 * k)) where
    pub other_type : (t ≡ x → ⊥) → EntityFrom s t i first count (k + 1)
    other_type ne = passed x (list s (first + 3 * k + 1)) false h ex refl (sym (stop _ (ne_eqb t x ne))) refl

    module _ (e : t ≡ x) (y : ℕ) (ey : y ≡ list s (first + 3 * k + 1)) where
      pub other-id : (i ≡ y → ⊥) → EntityFrom s t i first count (k + 1)
      other-id ne = passed x y false h ex ey (sym (skip _ (ne_eqb i y ne))) refl

      pub entity-found : i ≡ y → (p u w : ℕ) (v : ValNo) → first ≡ u → u ≡ point_word s p 10 → count ≡ w → w ≡ point_word s p 11 → v.0 ≡ list s (first + 3 * k + 2) → found_at (Some v) ≡ attributes_of t i (point_at s p).entities
      entity-found f p u w v ef eu ec ew ev = found-so x y true h ex ey (sym (after (eq-eqb t x e) ∙ eq-eqb i y f)) p u w v ef eu ec ew ev refl

pub entity-none : (s : List ℕ) (t i first count k p u w : ℕ) → EntityFrom s t i first count k → first ≡ u → u ≡ point_word s p 10 → count ≡ w → w ≡ point_word s p 11 → count ≤ k → found_at None ≡ attributes_of t i (point_at s p).entities
unfolding found_at attributes_of
entity-none s t i first count k p u w from ef eu ec ew h =
    ap (λ (l : List ℕ). attributes_of t i (map (entity_at s) l)) (sym (shut-place (first + 3 * k) 3 count k h)) ∙ from.rest
    ∙ sym (ap (attributes_of t i) (entities-are s p first count u w ef eu ec ew))

-- ---- the entity's own parts

pub same_pointwise : (s l : List ℕ) → pointwise eqb s l ≡ same_list s l
unfolding same_list ◌and◌
same_pointwise [] [] = refl
same_pointwise [] (y ∷ l) = refl
same_pointwise (x ∷ s) [] = refl
same_pointwise (x ∷ s) (y ∷ l) = go (eqb x y) (same_pointwise s l)
  where
    go : (b : Bool) → pointwise eqb s l ≡ same_list s l → (b && pointwise eqb s l) ≡ (b and same_list s l)
    go true e = e
    go false e = refl

pub own-none : (s : List ℕ) (t i : ℕ) (path : Run) → (path.count ≡ 1 → ⊥) → in_cells 0 0 ≡ own_part (case_of s) t i (names (case_of s) path)
unfolding in_cells pick
own-none s t i path ne = sym (ap (own_part (case_of s) t i) (names-are s path path.first path.count refl refl) ∙ many path.first path.count ne)
  where
    many : (first count : ℕ) → (count ≡ 1 → ⊥) → own_part (case_of s) t i (map (list s) (places first 1 count)) ≡ none
    many first zero h = unfold own_part places in refl
    many first (suc zero) h = absurd (h refl)
    many first (suc (suc count)) h = unfold own_part places in refl

own-by : (s : List ℕ) (t i n : ℕ) (a b : Bool) → same_list (text s n) (105 ∷ 100 ∷ []) ≡ a → same_list (text s n) (116 ∷ 121 ∷ 112 ∷ 101 ∷ []) ≡ b → own_part (case_of s) t i (n ∷ []) ≡ elim a as (λ a. Option Bound) [ true ↦ some (part i) | false ↦ elim b as (λ b. Option Bound) [ true ↦ some (part t) | false ↦ none ] ]
unfolding own_part case_of
own-by s t i n a b ea eb =
    ap (λ (a : Bool). elim a as (λ a. Option Bound) [ true ↦ some (part i) | false ↦ elim (same_list (text s n) (116 ∷ 121 ∷ 112 ∷ 101 ∷ [])) as (λ b. Option Bound) [ true ↦ some (part t) | false ↦ none ] ]) ea
    ∙ ap (λ (b : Bool). elim a as (λ a. Option Bound) [ true ↦ some (part i) | false ↦ elim b as (λ b. Option Bound) [ true ↦ some (part t) | false ↦ none ] ]) eb

module _ (s : List ℕ) (t i : ℕ) (path : Run) (first n : ℕ) (one : path.count ≡ 1) (ef : first ≡ path.first) (en : n ≡ list s first) where
  alone : names (case_of s) path ≡ n ∷ []
  unfolding places
  alone = names-are s path first 1 ef (sym one) ∙ rw (← en) refl

  own_is : (a b : Bool) → same_list (text s n) (105 ∷ 100 ∷ []) ≡ a → same_list (text s n) (116 ∷ 121 ∷ 112 ∷ 101 ∷ []) ≡ b → own_part (case_of s) t i (names (case_of s) path) ≡ elim a as (λ a. Option Bound) [ true ↦ some (part i) | false ↦ elim b as (λ b. Option Bound) [ true ↦ some (part t) | false ↦ none ] ]
  own_is a b ea eb = ap (own_part (case_of s) t i) alone ∙ own-by s t i n a b ea eb

  module _ (x : List ℕ) (a : Bool) (ex : x ≡ text s n) (ea : a ≡ same_list x (105 ∷ 100 ∷ [])) where
    id_test : same_list (text s n) (105 ∷ 100 ∷ []) ≡ a
    id_test = sym (ea ∙ rw ex refl)

    pub own-id : (bits : ℕ) → a ≡ true → bits ≡ i → in_cells 3 bits ≡ own_part (case_of s) t i (names (case_of s) path)
    unfolding in_cells pick
    own-id bits e eb = ap (λ (n : ℕ). some (part n)) eb ∙ sym (own_is true (same_list (text s n) (116 ∷ 121 ∷ 112 ∷ 101 ∷ [])) (id_test ∙ e) refl)

    module _ (no-id : a ≡ false) (y : List ℕ) (b : Bool) (ey : y ≡ text s n) (eb : b ≡ same_list y (116 ∷ 121 ∷ 112 ∷ 101 ∷ [])) where
      type_test : same_list (text s n) (116 ∷ 121 ∷ 112 ∷ 101 ∷ []) ≡ b
      type_test = sym (eb ∙ rw ey refl)

      pub own-type : (bits : ℕ) → b ≡ true → bits ≡ t → in_cells 3 bits ≡ own_part (case_of s) t i (names (case_of s) path)
      unfolding in_cells pick
      own-type bits e et = ap (λ (n : ℕ). some (part n)) et ∙ sym (own_is false true (id_test ∙ no-id) (type_test ∙ e))

      pub own-neither : b ≡ false → in_cells 0 0 ≡ own_part (case_of s) t i (names (case_of s) path)
      unfolding in_cells pick
      own-neither e = sym (own_is false false (id_test ∙ no-id) (type_test ∙ e))

-- ---- supplied, or its own

module _ (s : List ℕ) (object : Maybe ValNo) (o : Option ℕ) (path : List ℕ) (eo : found_at object ≡ o) where
  pub supplied-none : object ≡ None → in_cells 0 0 ≡ supplied (case_of s) o path
  unfolding supplied found_at in_cells pick
  supplied-none e = let z : o ≡ none = sym eo ∙ ap found_at e in rw z refl

  pub supplied-found : (v : ValNo) (tag bits : ℕ) → object ≡ Some v → in_cells tag bits ≡ bound_at (case_of s) (lookup (case_of s) v.0 path) → in_cells tag bits ≡ supplied (case_of s) o path
  unfolding supplied found_at
  supplied-found v tag bits ev h = let z : o ≡ some v.0 = sym eo ∙ ap found_at ev in h ∙ rw z refl

module _ (t u r w : ℕ) where
  pub else_unbound : t ≡ 0 → in_cells r w ≡ or_else (in_cells t u) (in_cells r w)
  unfolding in_cells pick or_else
  else_unbound e = rw e refl

  pub else_none : 3 < t → in_cells r w ≡ or_else (in_cells t u) (in_cells r w)
  else_none h = go t h
    where
      go : (t : ℕ) → 3 < t → in_cells r w ≡ or_else (in_cells t u) (in_cells r w)
      go zero h = absurd (omega arith)
      go (suc zero) h = absurd (omega arith)
      go (suc (suc zero)) h = absurd (omega arith)
      go (suc (suc (suc zero))) h = absurd (omega arith)
      go (suc (suc (suc (suc t)))) h = unfold in_cells pick or_else in refl

  pub first-bound : (t ≡ 0 → ⊥) → t ≤ 3 → in_cells t u ≡ or_else (in_cells t u) (in_cells r w)
  first-bound ne h = go t ne h
    where
      go : (t : ℕ) → (t ≡ 0 → ⊥) → t ≤ 3 → in_cells t u ≡ or_else (in_cells t u) (in_cells r w)
      go zero ne h = absurd (ne refl)
      go (suc zero) ne h = unfold in_cells pick or_else in refl
      go (suc (suc zero)) ne h = unfold in_cells pick or_else in refl
      go (suc (suc (suc zero))) ne h = unfold in_cells pick or_else in refl
      go (suc (suc (suc (suc t)))) ne h = absurd (omega arith)

pub attr_is : (a b r : Option Bound) {x y : Option Bound} → a ≡ x → b ≡ y → r ≡ or_else a b → r ≡ or_else x y
attr_is a b r e f h = h ∙ rw (e, f) refl

-- ---- from a root

no-entity : (members : ℕ → Part) (k a b : ℕ) → (k ≡ 5 → ⊥) → entity_of (value_from members k a b) ≡ none
unfolding entity_of value_from pick
no-entity members zero a b h = refl
no-entity members (suc zero) a b h = refl
no-entity members (suc (suc zero)) a b h = refl
no-entity members (suc (suc (suc zero))) a b h = refl
no-entity members (suc (suc (suc (suc zero)))) a b h = refl
no-entity members (suc (suc (suc (suc (suc zero))))) a b h = absurd (h refl)
no-entity members (suc (suc (suc (suc (suc (suc zero)))))) a b h = refl
no-entity members (suc (suc (suc (suc (suc (suc (suc zero))))))) a b h = refl
no-entity members (suc (suc (suc (suc (suc (suc (suc (suc k)))))))) a b h = refl

module _ (s : List ℕ) (p : Point) (v : ℕ) (path : Run) where
  pub root_bare : (tag bits : ℕ) → path.count ≡ 0 → in_cells tag bits ≡ some (bound_of v (value_at s v)) → in_cells tag bits ≡ from_root (case_of s) p (some v) (names (case_of s) path)
  unfolding from_root bound_at case_of places
  root_bare tag bits e h = h ∙ sym (ap (from_root (case_of s) p (some v)) (names-are s path path.first 0 refl (sym e)))

  from-many : (path.count ≡ 0 → ⊥) → from_root (case_of s) p (some v) (names (case_of s) path) ≡ attribute (case_of s) p v (names (case_of s) path)
  from-many ne = rw (names-are s path path.first path.count refl refl) (many path.first path.count ne)
    where
      many : (first count : ℕ) → (count ≡ 0 → ⊥) → from_root (case_of s) p (some v) (map (list s) (places first 1 count)) ≡ attribute (case_of s) p v (map (list s) (places first 1 count))
      many first zero h = absurd (h refl)
      many first (suc count) h = unfold from_root places in refl

  attribute-by : (o : Option (ℕ × ℕ)) → entity_of (value_at s v) ≡ o → attribute (case_of s) p v (names (case_of s) path) ≡ elim o as (λ o. Option Bound) [ none ↦ none | some e ↦ or_else (supplied (case_of s) (attributes_of e.0 e.1 p.entities) (names (case_of s) path)) (own_part (case_of s) e.0 e.1 (names (case_of s) path)) ]
  unfolding attribute case_of
  attribute-by o e = ap (λ (o : Option (ℕ × ℕ)). elim o as (λ o. Option Bound) [ none ↦ none | some e ↦ or_else (supplied (case_of s) (attributes_of e.0 e.1 p.entities) (names (case_of s) path)) (own_part (case_of s) e.0 e.1 (names (case_of s) path)) ]) e

  pub root_plain : (k : ℕ) → (path.count ≡ 0 → ⊥) → k ≡ value_word s v 0 → (k ≡ 5 → ⊥) → in_cells 0 0 ≡ from_root (case_of s) p (some v) (names (case_of s) path)
  unfolding in_cells pick value_at
  root_plain k ne ek n5 = sym (from-many ne ∙ attribute-by none (no-entity (part_at s) (value_word s v 0) (value_word s v 1) (value_word s v 2) (λ e. n5 (ek ∙ e))))

  pub root_entity : (k t i tag bits : ℕ) → (path.count ≡ 0 → ⊥) → k ≡ value_word s v 0 → k ≡ 5 → t ≡ value_word s v 1 → i ≡ value_word s v 2 → in_cells tag bits ≡ or_else (supplied (case_of s) (attributes_of t i p.entities) (names (case_of s) path)) (own_part (case_of s) t i (names (case_of s) path)) → in_cells tag bits ≡ from_root (case_of s) p (some v) (names (case_of s) path)
  unfolding entity_of value_from pick
  root_entity k t i tag bits ne ek e et ei h =
      h ∙ sym (from-many ne ∙ attribute-by (some (t, i)) (ap entity_of (value_as s v 5 k t i ek et ei e)))

module _ (s : List ℕ) (p v : ℕ) (root : Root) where
  pub principal-word : root ≡ Principal → v ≡ point_word s p 8 → maybe v ≡ root_of (point_at s p) root
  unfolding root_of point_at
  principal-word e ev = rw (e, ev) refl

  pub resource-word : root ≡ Resource → v ≡ point_word s p 9 → maybe v ≡ root_of (point_at s p) root
  unfolding root_of point_at
  resource-word e ev = rw (e, ev) refl

  module _ (path : Run) (er : maybe v ≡ root_of (point_at s p) root) where
    pub scope_none : v ≡ 4294967295 → in_cells 0 0 ≡ scope_at (case_of s) (point_at s p) root (names (case_of s) path)
    unfolding scope_at from_root in_cells pick maybe only_if
    scope_none e = let z : root_of (point_at s p) root ≡ none = sym er ∙ rw e refl in rw z refl

    pub scope_value : (tag bits : ℕ) → (v ≡ 4294967295 → ⊥) → in_cells tag bits ≡ from_root (case_of s) (point_at s p) (some v) (names (case_of s) path) → in_cells tag bits ≡ scope_at (case_of s) (point_at s p) root (names (case_of s) path)
    unfolding scope_at maybe only_if
    scope_value tag bits ne h = let z : root_of (point_at s p) root ≡ some v = sym er ∙ rw (ne_eqb v 4294967295 ne) refl in h ∙ rw z refl
