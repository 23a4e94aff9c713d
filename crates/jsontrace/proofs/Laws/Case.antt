-- The points of a checked case can be written, if no object among them reads as one of Cedar's forms
use Rattle.std.specs.Prelude.{◌≡◌, Bool, pos, negsuc, eqb, leb}
use Rattle.std.proofs.Math.Path.{refl, ap}
use Rattle.std.proofs.Common.{sym, ◌∙◌}
use Rattle.std.proofs.Math.Bool.{true, false, not}
use mathlib.Core.List.{List, [], ◌∷◌, map}
use Prim.Native.Nat.{ℕ, zero, suc, ◌+◌, ◌*◌, ◌-◌, ◌<◌, ◌≤◌, max}
use native.Mathlib.Omega.{arith}
use Rattle.std.proofs.Math.Dec.{ltb}
use borrow.Author.Tests.{ltb-true, ltb-false, leb-true, le-leb, eqb-true}
use mir.Val.{sel}
use Rattle.meaning.specs.Tests.{◌and◌, ◌or◌, only_if, pick, rises, greatest}
use Rattle.meaning.specs.Text.{before, free}
use Rattle.meaning.specs.Case.{Part, Value, Null, Boolean, Int, Decimal, Text, Entity, Array, Object, Attributes, nothing, places, run_of, run, strings, values, points, value_word, member_word, point_word, list, text, signed, maybe, part_at, value_from, value_at, entity_at, point_at, case_of}
use Rattle.meaning.specs.Check.{Checked, string_rules, utf8_rule, order_rule, object_item, null_rule, bool_rule, int_rule, text_rule, entity_value_rule, array_rule, object_rule, no_kind, value_rule, part_count, part_value, depth, depth_rule, value_rules, string_run, entity_rule, entity_item, entity_run, point_rule, point_rules, is_object, maybe_value}
use Rattle.meaning.specs.Equal.{see, seen, same_list}
use Rattle.laws.specs.Below.{made-is}
use Rattle.laws.specs.Tests.{both, pass, all-at}
use Rattle.laws.specs.Lists.{Every, every_map, every-place}
use Rattle.laws.specs.Values.{held, held-is, depth_is}
use Rattle.laws.specs.Checked.{rules, checked-values, lower-parts}
use Rattle.encode.proofs.Laws.Join.{before_trans, before-not}
use Rattle.encode.proofs.Laws.Read.{never}
use Rattle.jsontext.specs.Values.{J, Null as Null-as-J, Array as Array-as-J, Object as Object-as-J}
use Rattle.jsontrace.specs.Export.{parts_of, members_of, tree_of, tree_at, maybe_tree, item_of, event_of, point_events, not_form, clear, clear_parts, clear_maybe, clear_items, clear_event, clear_events}
use Rattle.jsontrace.specs.Writable.{fits64, well, fresh, distinct, part_names, writable, writable_items, writable_members, deep, deep_parts, writable_value, writable_maybe, all_well, writable_entities, writable_event, writable_events}

-- ---- 64 bits

pub signed-fits : (low high : ℕ) → fits64 (signed low high) ≡ true
unfolding signed
signed-fits low high = go (low + 4294967296 * high) (ltb (low + 4294967296 * high) 9223372036854775808) refl
  where
    go : (u : ℕ) (b : Bool) → ltb u 9223372036854775808 ≡ b → fits64 (sel b (pos u) (negsuc (18446744073709551616 - suc u))) ≡ true
    go u true e = unfold fits64 in le-leb u 9223372036854775807 (omega (arith, ltb-true u 9223372036854775808 e))
    go u false e = unfold fits64 in le-leb (18446744073709551616 - suc u) 9223372036854775807 (omega (arith, ltb-false u 9223372036854775808 e))

-- ---- texts

same-list : (x y : List ℕ) → same_list x y ≡ true → x ≡ y
unfolding same_list
same-list [] [] h = refl
same-list [] (b ∷ y) h = never h
same-list (a ∷ x) [] h = never h
same-list (a ∷ x) (b ∷ y) h =
    let p = both (eqb a b) (same_list x y) h in
    let z : a ≡ b = eqb-true a b p.0 in
    rw z (ap (λ (t : List ℕ). b ∷ t) (same-list x y p.1))

-- ---- what is made of a value is made of its parts

parts_same : (name : ℕ → List ℕ) (g h : ℕ → J) (ps : List Part) → Every (λ j. g j ≡ h j) (held ps) → parts_of name g ps ≡ parts_of name h ps
unfolding parts_of held
parts_same name g h [] e = refl
parts_same name g h (p ∷ ps) e = cc (e.0, parts_same name g h ps e.1)

module _ {s : List ℕ} (c : Checked s) where
  tree_same : (g h : ℕ → J) (w : Value) → Every (λ j. g j ≡ h j) (held (see (case_of s) w).parts) → tree_of s g w ≡ tree_of s h w
  unfolding tree_of see seen
  tree_same g h Null e = refl
  tree_same g h (Boolean b) e = refl
  tree_same g h (Int z) e = refl
  tree_same g h (Decimal t) e = refl
  tree_same g h (Text t) e = refl
  tree_same g h (Entity t i) e = refl
  tree_same g h (Array ps) e = ap Array-as-J (parts_same (λ n. []) g h ps e)
  tree_same g h (Object ps) e = ap Object-as-J (parts_same (text s) g h ps e)

  tree_is : (v : ℕ) → tree_at s v ≡ tree_of s (tree_at s) (value_at s v)
  unfolding tree_at
  tree_is v = made-is Null-as-J (λ of v. tree_of s of (value_at s v)) (suc v) (λ g h m hm same. tree_same g h (value_at s m) (every_map (held (see (case_of s) (value_at s m)).parts) same (lower-parts c m))) v (omega arith)

  -- ---- strings

  well-text : (k : ℕ) → ltb k (strings s) ≡ true → well (text s k) ≡ true
  unfolding string_rules utf8_rule
  well-text k h = all-at (utf8_rule s) (strings s) k (both _ _ (both _ _ (rules s c).strings).1).0 (ltb-true k (strings s) h)

  next-after : (k : ℕ) → suc k < strings s → before (text s k) (text s (suc k)) ≡ true
  unfolding string_rules order_rule rises
  next-after k h = all-at (order_rule s) (strings s) (suc k) (both _ _ (both _ _ (rules s c).strings).1).1 h

  text-after : (i k : ℕ) → i < k → k < strings s → before (text s i) (text s k) ≡ true
  text-after i zero l h = absurd (omega arith)
  text-after i (suc k) l h = go (ltb i k) refl (λ m. text-after i k m (omega arith))
    where
      go : (b : Bool) → ltb i k ≡ b → (i < k → before (text s i) (text s k) ≡ true) → before (text s i) (text s (suc k)) ≡ true
      go true e rest = before_trans (text s i) (text s k) (text s (suc k)) (rest (ltb-true i k e)) (next-after k h)
      go false e rest = let q : i ≡ k = omega (arith, ltb-false i k e) in rw q (next-after k h)

  differ : (i k : ℕ) → i < k → k < strings s → same_list (text s i) (text s k) ≡ false
  differ i k l h = go (same_list (text s i) (text s k)) refl
    where
      go : (b : Bool) → same_list (text s i) (text s k) ≡ b → same_list (text s i) (text s k) ≡ false
      go false e = e
      go true e =
          let z : text s i ≡ text s k = same-list (text s i) (text s k) e in
          never (sym (before-not (text s k)) ∙ ap (λ (t : List ℕ). before t (text s k)) (sym z) ∙ text-after i k l h)

  -- names seen are texts of lower numbers
  record Seen (bound : ℕ) (x : List ℕ) : Type 0 where
    number : ℕ
    below : number < bound
    is : x ≡ text s number

  fresh-name : (seen : List (List ℕ)) (k : ℕ) → k < strings s → Every (Seen k) seen → fresh (text s k) seen ≡ true
  unfolding fresh
  fresh-name [] k h e = refl
  fresh-name (x ∷ seen) k h e =
      pass (ap not (ap (λ (t : List ℕ). same_list t (text s k)) e.0.is ∙ differ e.0.number k e.0.below h)) (fresh-name seen k h e.1)

  more-seen : (seen : List (List ℕ)) (a b : ℕ) → a ≤ b → Every (Seen a) seen → Every (Seen b) seen
  more-seen seen a b l e = every_map seen (λ x p. record { number = p.number; below = omega (arith, p.below); is = p.is }) e

  -- ---- members of an object: names that rise

  distinct-run : (name : ℕ → ℕ) (of : ℕ → J) (value : ℕ → ℕ) (first count : ℕ) (seen : List (List ℕ)) (bound : ℕ)
      → Every (Seen bound) seen
      → ((i : ℕ) → i < count → name (first + i) < strings s)
      → ((i : ℕ) → suc i < count → name (first + i) < name (first + suc i))
      → (0 < count → bound ≤ name first)
      → distinct seen (part_names (parts_of (text s) of (map (λ m. record { name = name m; value = value m }) (places first 1 count)))) ≡ true
  unfolding distinct part_names parts_of places
  distinct-run name of value first zero seen bound e inside up low = refl
  distinct-run name of value first (suc count) seen bound e inside up low =
      let z : first + 0 ≡ first = omega arith in
      let here : name first < strings s = rw z at (inside 0 (omega arith)) in
      pass (fresh-name seen (name first) here (more-seen seen bound (name first) (low (omega arith)) e))
      (distinct-run name of value (first + 1) count (text s (name first) ∷ seen) (suc (name first))
      (record { number = name first; below = omega arith; is = refl }, more-seen seen bound (suc (name first)) (omega (arith, low (omega arith))) e)
      (λ i h. rw (shift i) at (inside (suc i) (omega arith)))
      (λ i h. further i (up (suc i) (omega arith)))
      (λ h. rise (up 0 (omega arith))))
    where
      shift : (i : ℕ) → first + suc i ≡ first + 1 + i
      shift i = omega arith

      further : (i : ℕ) → name (first + suc i) < name (first + suc (suc i)) → name (first + 1 + i) < name (first + 1 + suc i)
      further i h = rw (shift i, shift (suc i)) at h

      rise : name (first + 0) < name (first + 1) → suc (name first) ≤ name (first + 1)
      rise h = let z : first + 0 ≡ first = omega arith in rw z at h

  -- ---- values

  -- what is known of a value from what is known of its parts
  record Fine (v : ℕ) : Type 0 where
    writes : clear (tree_at s v) ≡ true → writable (tree_at s v) ≡ true
    low : deep (tree_at s v) ≤ depth s v

  deep-lower : (xs : List ℕ) (m : ℕ) → Every Fine xs → Every (λ j. depth s j ≤ m) xs → Every (λ j. deep (tree_at s j) ≤ m) xs
  deep-lower [] m e d = tt
  deep-lower (x ∷ xs) m e d = (omega (arith, e.0.low, d.0), deep-lower xs m e.1 d.1)

  item-writes : (ps : List Part) → Every Fine (held ps) → clear_parts (parts_of (λ n. []) (tree_at s) ps) ≡ true → writable_items (parts_of (λ n. []) (tree_at s) ps) ≡ true
  unfolding parts_of held clear writable same_list
  item-writes [] e h = refl
  item-writes (p ∷ ps) e h =
      let q = both (clear (tree_at s p.value)) _ h in
      pass refl (pass (e.0.writes q.0) (item-writes ps e.1 q.1))

  member-writes : (ps : List Part) → Every Fine (held ps) → Every (λ p. well (text s p.name) ≡ true) ps → clear_parts (parts_of (text s) (tree_at s) ps) ≡ true → writable_members (parts_of (text s) (tree_at s) ps) ≡ true
  unfolding parts_of held clear writable
  member-writes [] e w h = refl
  member-writes (p ∷ ps) e w h =
      let q = both (clear (tree_at s p.value)) _ h in
      pass w.0 (pass (e.0.writes q.0) (member-writes ps e.1 w.1 q.1))

  -- members of a run have names of strings
  every_in : {A : Type 0} (P : A → Type 0) (f : ℕ → A) (xs : List ℕ) → Every (λ x. P (f x)) xs → Every P (map f xs)
  every_in P f [] e = tt
  every_in P f (x ∷ xs) e = (e.0, every_in P f xs e.1)

  in_run : {A : Type 0} (P : A → Type 0) (f : ℕ → A) (first count : ℕ) → ((i : ℕ) → i < count → P (f (first + i))) → Every P (map f (places first 1 count))
  in_run P f first count h =
      every_in P f (places first 1 count) (every-place (λ m. P (f m)) first 1 count (λ i l. let z : first + 1 * i ≡ first + i = omega arith in rw z (h i l)))

  module _ (v : ℕ) where
    object-writes : object_rule s v ≡ true → Every Fine (held (map (part_at s) (places (value_word s v 1) 1 (value_word s v 2)))) → clear (Object-as-J (parts_of (text s) (tree_at s) (map (part_at s) (places (value_word s v 1) 1 (value_word s v 2))))) ≡ true → writable (Object-as-J (parts_of (text s) (tree_at s) (map (part_at s) (places (value_word s v 1) 1 (value_word s v 2))))) ≡ true
    unfolding clear writable part_at
    object-writes h e k =
        let q = both (not_form _) _ k in
        pass (distinct-run (λ m. member_word s m 0) (tree_at s) (λ m. member_word s m 1) (value_word s v 1) (value_word s v 2) [] 0 tt named up (λ l. omega arith))
        (pass q.0 (member-writes _ e (in_run (λ p. well (text s p.name) ≡ true) (part_at s) (value_word s v 1) (value_word s v 2) (λ i l. well-text _ (string i l))) q.1))
      where
        item : (i : ℕ) → i < value_word s v 2 → object_item s v (value_word s v 1) i ≡ true
        item i l = all-at (object_item s v (value_word s v 1)) (value_word s v 2) i (both _ _ (both _ _ h).1).1 l

        string : (i : ℕ) → i < value_word s v 2 → ltb (member_word s (value_word s v 1 + i) 0) (strings s) ≡ true
        string i l = unfold object_item in (both _ _ (both _ _ (item i l)).0).0

        named : (i : ℕ) → i < value_word s v 2 → member_word s (value_word s v 1 + i) 0 < strings s
        named i l = ltb-true _ _ (string i l)

        up : (i : ℕ) → suc i < value_word s v 2 → member_word s (value_word s v 1 + i) 0 < member_word s (value_word s v 1 + suc i) 0
        up i l = unfold object_item rises in ltb-true _ _ (both _ _ (item (suc i) l)).1

    by_kind : (n : ℕ) → pick (null_rule s ∷ bool_rule s ∷ int_rule s ∷ text_rule s ∷ text_rule s ∷ entity_value_rule s ∷ array_rule s ∷ object_rule s ∷ []) n (no_kind s) v ≡ true → Every Fine (held (see (case_of s) (value_from (part_at s) n (value_word s v 1) (value_word s v 2))).parts) → clear (tree_of s (tree_at s) (value_from (part_at s) n (value_word s v 1) (value_word s v 2))) ≡ true → writable (tree_of s (tree_at s) (value_from (part_at s) n (value_word s v 1) (value_word s v 2))) ≡ true
    unfolding pick value_from tree_of clear writable see seen
    by_kind zero h e k = refl
    by_kind (suc zero) h e k = refl
    by_kind (suc (suc zero)) h e k = signed-fits _ _
    by_kind (suc (suc (suc zero))) h e k = well-text _ (both _ _ h).0
    by_kind (suc (suc (suc (suc zero)))) h e k = well-text _ (both _ _ h).0
    by_kind (suc (suc (suc (suc (suc zero))))) h e k =
        let p = both (ltb (value_word s v 1) (strings s)) _ h in
        pass (well-text _ p.0) (well-text _ (both (ltb (value_word s v 2) (strings s)) _ p.1).0)
    by_kind (suc (suc (suc (suc (suc (suc zero)))))) h e k = item-writes _ e k
    by_kind (suc (suc (suc (suc (suc (suc (suc zero))))))) h e k = object-writes h e k
    by_kind (suc (suc (suc (suc (suc (suc (suc (suc n)))))))) h e k = never h

  -- ---- levels

  deep-parts : (name : ℕ → List ℕ) (ps : List Part) (m : ℕ) → Every (λ j. deep (tree_at s j) ≤ m) (held ps) → deep_parts (parts_of name (tree_at s) ps) ≤ m
  unfolding parts_of held deep
  deep-parts name [] m e = omega arith
  deep-parts name (p ∷ ps) m e = omega (arith, e.0, deep-parts name ps m e.1)

  deep_tree : (w : Value) (m : ℕ) → Every (λ j. deep (tree_at s j) ≤ m) (held (see (case_of s) w).parts) → deep (tree_of s (tree_at s) w) ≤ suc m
  unfolding tree_of see seen deep
  deep_tree Null m e = omega arith
  deep_tree (Boolean b) m e = omega arith
  deep_tree (Int z) m e = omega arith
  deep_tree (Decimal t) m e = omega arith
  deep_tree (Text t) m e = omega arith
  deep_tree (Entity t i) m e = omega arith
  deep_tree (Array ps) m e = omega (arith, deep-parts (λ n. []) ps m e)
  deep_tree (Object ps) m e = omega (arith, deep-parts (text s) ps m e)

  greatest-above : (f : ℕ → ℕ) (n i : ℕ) → i < n → f i ≤ greatest n f
  unfolding greatest
  greatest-above f zero i h = absurd (omega arith)
  greatest-above f (suc n) i h = go (ltb i n) refl (λ l. greatest-above f n i l)
    where
      go : (b : Bool) → ltb i n ≡ b → (i < n → f i ≤ greatest n f) → f i ≤ max (greatest n f) (f n)
      go true e more = omega (arith, more (ltb-true i n e))
      go false e more = let z : i ≡ n = omega (arith, ltb-false i n e) in rw z (omega arith)

  -- each part has fewer levels
  parts-lower : (v : ℕ) → Every (λ j. depth s j ≤ greatest (part_count s v) (λ i. depth s (part_value s v i))) (held (see (case_of s) (value_at s v)).parts)
  parts-lower v =
      rw (held-is s v)
      (in_run (λ j. depth s j ≤ greatest (part_count s v) (λ i. depth s (part_value s v i))) (part_value s v) 0 (part_count s v) (λ i l. let z : 0 + i ≡ i = omega arith in rw z (greatest-above (λ i. depth s (part_value s v i)) (part_count s v) i l)))

  -- ---- all of them

  one-fine : (v : ℕ) → v < values s → Every Fine (held (see (case_of s) (value_at s v)).parts) → Fine v
  one-fine v h e = record { writes = writes; low = low }
    where
      rule : value_rule s v ≡ true
      rule = all-at (value_rule s) (values s) v (checked-values c) h

      writes : clear (tree_at s v) ≡ true → writable (tree_at s v) ≡ true
      writes k = ap writable (tree_is v) ∙ (unfold value_at value_rule in by_kind v (value_word s v 0) rule e (ap clear (sym (tree_is v)) ∙ k))

      low : deep (tree_at s v) ≤ depth s v
      low =
          let most = greatest (part_count s v) (λ i. depth s (part_value s v i)) in
          let all : Every (λ j. deep (tree_at s j) ≤ most) (held (see (case_of s) (value_at s v)).parts) = deep-lower (held (see (case_of s) (value_at s v)).parts) most e (parts-lower v) in
          omega (arith, ap deep (tree_is v), deep_tree (value_at s v) most all, depth_is s (checked-values c) v h)

  fine : (bound v : ℕ) → v < bound → v < values s → Fine v
  fine zero v l h = absurd (omega arith)
  fine (suc bound) v l h = one-fine v h (every_map (held (see (case_of s) (value_at s v)).parts) (λ j k. fine bound j (omega arith) (omega arith)) (lower-parts c v))

  -- a value of the case, if it is clear
  value-writes : (v : ℕ) → ltb v (values s) ≡ true → clear (tree_at s v) ≡ true → writable_value (tree_at s v) ≡ true
  value-writes v h k =
      let l = ltb-true v (values s) h in
      let f = fine (suc v) v (omega arith) l in
      pass (f.writes k) (le-leb (deep (tree_at s v)) 32 (omega (arith, f.low, leb-true (depth s v) 32 (levels v l))))
    where
      levels : (v : ℕ) → v < values s → leb (depth s v) 32 ≡ true
      levels v l = unfold value_rules depth_rule in all-at (depth_rule s) (values s) v (both _ _ (both _ _ (rules s c).values).1).1 l

  -- ---- points

  -- an object's own members
  object_tree : (v : ℕ) → value_word s v 0 ≡ 7 → Object-as-J (members_of (tree_at s v)) ≡ tree_at s v
  object_tree v e = rw is (unfold members_of in refl)
    where
      is : tree_at s v ≡ Object-as-J (parts_of (text s) (tree_at s) (map (part_at s) (places (value_word s v 1) 1 (value_word s v 2))))
      is = tree_is v ∙ (unfold value_at value_from tree_of pick in rw e refl)

  record_writes : (v : ℕ) → is_object s v ≡ true → clear (Object-as-J (members_of (tree_at s v))) ≡ true → writable_value (Object-as-J (members_of (tree_at s v))) ≡ true
  record_writes v h k =
      let p = both (ltb v (values s)) (eqb (value_word s v 0) 7) h in
      let z = object_tree v (eqb-true (value_word s v 0) 7 p.1) in
      ap (λ (j : J). writable_value j) z ∙ value-writes v p.0 (ap clear (sym z) ∙ k)

  maybe-writes : (v : ℕ) → maybe_value s v ≡ true → clear_maybe (maybe_tree s (maybe v)) ≡ true → writable_maybe (maybe_tree s (maybe v)) ≡ true
  unfolding maybe
  maybe-writes v h k = go (eqb v nothing) h k
    where
      go : (b : Bool) → (b or ltb v (values s)) ≡ true → clear_maybe (maybe_tree s (only_if (not b) v)) ≡ true → writable_maybe (maybe_tree s (only_if (not b) v)) ≡ true
      go true h k = unfold only_if maybe_tree writable_maybe in refl
      go false h k = unfold only_if maybe_tree writable_maybe clear_maybe ◌or◌ in value-writes v h k

  all-well : (xs : List ℕ) → Every (λ k. ltb k (strings s) ≡ true) xs → all_well (map (text s) xs) ≡ true
  unfolding all_well
  all-well [] e = refl
  all-well (x ∷ xs) e = pass (well-text x e.0) (all-well xs e.1)

  namespace-writes : (first count : ℕ) → string_run s first count ≡ true → all_well (map (text s) (run_of (list s) (run first count))) ≡ true
  unfolding string_run run_of
  namespace-writes first count h = all-well (map (list s) (places first 1 count)) (in_run (λ k. ltb k (strings s) ≡ true) (list s) first count (λ i l. all-at _ count i (both _ _ h).1 l))

  record Entity·Fine (e : Attributes) : Type 0 where
    type : ltb e.type (strings s) ≡ true
    id : ltb e.id (strings s) ≡ true
    object : is_object s e.object ≡ true

  entities-write : (es : List Attributes) → Every Entity·Fine es → clear_items (map (item_of s) es) ≡ true → writable_entities (map (item_of s) es) ≡ true
  unfolding clear_items writable_entities item_of
  entities-write [] e k = refl
  entities-write (x ∷ es) e k =
      let q = both (clear (Object-as-J (members_of (tree_at s x.object)))) _ k in
      pass (pass (well-text _ e.0.type) (pass (well-text _ e.0.id) (record_writes x.object e.0.object q.0))) (entities-write es e.1 q.1)

  entities-fine : (first count : ℕ) → entity_run s first count ≡ true → Every Entity·Fine (map (entity_at s) (places first 3 count))
  unfolding entity_run
  entities-fine first count h =
      every_in Entity·Fine (entity_at s) (places first 3 count) (every-place (λ m. Entity·Fine (entity_at s m)) first 3 count (λ i l. one (first + 3 * i) (item i l)))
    where
      item : (i : ℕ) → i < count → entity_rule s (first + 3 * i) ≡ true
      item i l = unfold entity_item in (both _ _ (all-at (entity_item s first) count i (both _ _ h).1 l)).0

      one : (m : ℕ) → entity_rule s m ≡ true → Entity·Fine (entity_at s m)
      one m r =
          unfold entity_rule entity_at in
          let p = both (ltb (list s m) (strings s) and free 34 (text s (list s m))) _ r in
          let q = both (ltb (list s (m + 1)) (strings s)) _ p.1 in
          record { type = (both (ltb (list s m) (strings s)) _ p.0).0; id = q.0; object = q.1 }

  event-writes : (p : ℕ) → p < points s → clear_event (event_of s (point_at s p)) ≡ true → writable_event (event_of s (point_at s p)) ≡ true
  unfolding clear_event writable_event event_of point_at point_rule
  event-writes p l k =
      let r = rule in
      let a = both (string_run s (point_word s p 2) (point_word s p 3)) _ r in
      let b = both (ltb (point_word s p 4) (strings s)) _ a.1 in
      let d = both (ltb (point_word s p 5) (strings s)) _ b.1 in
      let e = both (is_object s (point_word s p 6)) _ d.1 in
      let f = both (is_object s (point_word s p 7)) _ e.1 in
      let g = both (maybe_value s (point_word s p 8)) _ f.1 in
      let h = both (maybe_value s (point_word s p 9)) _ g.1 in
      let k1 = both (clear (Object-as-J (members_of (tree_at s (point_word s p 6))))) _ k in
      let k2 = both (clear (Object-as-J (members_of (tree_at s (point_word s p 7))))) _ k1.1 in
      let k3 = both (clear_maybe (maybe_tree s (maybe (point_word s p 8)))) _ k2.1 in
      let k4 = both (clear_maybe (maybe_tree s (maybe (point_word s p 9)))) _ k3.1 in
      pass (signed-fits (point_word s p 0) (point_word s p 1))
      (pass (namespace-writes (point_word s p 2) (point_word s p 3) a.0)
      (pass (well-text _ b.0)
      (pass (well-text _ d.0)
      (pass (record_writes (point_word s p 6) e.0 k1.0)
      (pass (record_writes (point_word s p 7) f.0 k2.0)
      (pass (maybe-writes (point_word s p 8) g.0 k3.0)
      (pass (maybe-writes (point_word s p 9) h.0 k4.0) (entities-write (map (entity_at s) (places (point_word s p 10) 3 (point_word s p 11))) (entities-fine (point_word s p 10) (point_word s p 11) h.1) k4.1))))))))
    where
      rule : point_rule s p ≡ true
      rule = unfold point_rules in all-at (point_rule s) (points s) p (rules s c).points l

  -- ---- all points

  events-write : (ps : List ℕ) → Every (λ p. p < points s) ps → clear_events (map (λ p. event_of s (point_at s p)) ps) ≡ true → writable_events (map (λ p. event_of s (point_at s p)) ps) ≡ true
  unfolding clear_events writable_events
  events-write [] e k = refl
  events-write (p ∷ ps) e k =
      let q = both (clear_event (event_of s (point_at s p))) _ k in
      pass (event-writes p e.0 q.0) (events-write ps e.1 q.1)

  pub points-write : clear_events (point_events s) ≡ true → writable_events (point_events s) ≡ true
  unfolding point_events
  points-write k = events-write (places 0 1 (points s)) (every-place (λ p. p < points s) 0 1 (points s) (λ i l. omega arith)) k
