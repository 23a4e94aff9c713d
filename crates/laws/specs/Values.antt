-- What passed value rules say: runs lie in their table, parts have lower numbers; depth, literal and equality by parts
use Rattle.std.proofs.Math.Path.{◌≡◌, refl, ap, fun_ext}
use Rattle.std.specs.Prelude.{Bool, not, ltb, eqb}
use Rattle.std.proofs.Math.Bool.{true, false}
use mathlib.Core.List.{List, [], ◌∷◌, map}
use Prim.Native.Nat.{ℕ, zero, suc, ◌+◌, ◌*◌, ◌<◌, ◌≤◌}
use native.Mathlib.Omega.{arith}
use Rattle.std.proofs.Math.Dec.{leb}
use Rattle.std.proofs.Common.{lit<}
use borrow.Author.Tests.{leb-true, leb-false, ltb-true, ltb-false, le-leb, lt-leb}
use Rattle.meaning.specs.Tests.{◌and◌, ◌or◌, choose, within, all_below, pick, greatest}
use Rattle.meaning.specs.Case.{Part, Null, values, members, value_word, member_word, part_at, value_at, value_from, places, case_of}
use Rattle.meaning.specs.Check.{bodies, value_rule, array_item, object_item, part_count, part_value, depth, literal, null_rule, bool_rule, int_rule, text_rule, entity_value_rule, array_rule, object_rule, no_kind}
use Rattle.meaning.specs.Equal.{see, seen, alike, same_parts, same_value}
use Rattle.laws.specs.Below.{made-is}
use Rattle.laws.specs.Tests.{both, stop, skip, pass, yes, no, all-at, levels-is, throughout-is}
use Rattle.laws.specs.Bodies.{wholes, body-beyond}
use Rattle.laws.specs.Lists.{Every, every_map, every-place}

-- value v, if it holds others, holds a run of members whose values lie below k
pub record Runs (s : List ℕ) (k v : ℕ) : Type 0 where
  pub there : v < values s
  pub kinds : value_word s v 0 < 8
  pub inside : 6 ≤ value_word s v 0 → value_word s v 1 + value_word s v 2 ≤ members s
  pub lower : (i : ℕ) → i < part_count s v → part_value s v i < k

-- ---- from a passed rule

module _ (s : List ℕ) (v : ℕ) where
  -- what the rules of arrays and objects say alike
  record Holder : Type 0 where
    run : value_word s v 1 + 1 * value_word s v 2 ≤ members s
    lower : (i : ℕ) → i < value_word s v 2 → member_word s (value_word s v 1 + i) 1 < v

  array : array_rule s v ≡ true → Holder
  array h =
      let r = both _ _ (both _ _ h).1 in
      record {
        run = leb-true _ _ r.0;
        lower = λ i hi. unfold array_item in ltb-true _ _ (both _ _ (all-at _ _ i r.1 hi)).1;
      }

  object : object_rule s v ≡ true → Holder
  object h =
      let r = both _ _ (both _ _ h).1 in
      record {
        run = leb-true _ _ r.0;
        lower = λ i hi. unfold object_item in ltb-true _ _ (both _ _ (both _ _ (all-at _ _ i r.1 hi)).0).1;
      }

  kinds_of : (n : ℕ) → pick (null_rule s ∷ bool_rule s ∷ int_rule s ∷ text_rule s ∷ text_rule s ∷ entity_value_rule s ∷ array_rule s ∷ object_rule s ∷ []) n (no_kind s) v ≡ true → (n < 8) × (6 ≤ n → Holder)
  unfolding pick
  kinds_of zero h = (lit< tt, λ l. absurd (omega arith))
  kinds_of (suc zero) h = (lit< tt, λ l. absurd (omega arith))
  kinds_of (suc (suc zero)) h = (lit< tt, λ l. absurd (omega arith))
  kinds_of (suc (suc (suc zero))) h = (lit< tt, λ l. absurd (omega arith))
  kinds_of (suc (suc (suc (suc zero)))) h = (lit< tt, λ l. absurd (omega arith))
  kinds_of (suc (suc (suc (suc (suc zero))))) h = (lit< tt, λ l. absurd (omega arith))
  kinds_of (suc (suc (suc (suc (suc (suc zero)))))) h = (lit< tt, λ l. array h)
  kinds_of (suc (suc (suc (suc (suc (suc (suc zero))))))) h = (lit< tt, λ l. object h)
  kinds_of (suc (suc (suc (suc (suc (suc (suc (suc n)))))))) h = let z : ◌≡◌ {A = ℕ} 0 1 = cc in absurd (omega arith)

  pub leaf : value_word s v 0 < 6 → part_count s v ≡ 0
  unfolding part_count
  leaf h = no _ (stop _ (lt-leb _ _ h)) refl

  pub holder : 6 ≤ value_word s v 0 → value_word s v 0 < 8 → part_count s v ≡ value_word s v 2
  unfolding part_count
  holder h l = yes _ (pass (le-leb _ _ h) (le-leb (value_word s v 0) 7 (omega arith)))

  -- the two ways: a leaf has no part, a holder's parts are lower
  lower_of : (value_word s v 0 < 8) → (6 ≤ value_word s v 0 → Holder) → (i : ℕ) → i < part_count s v → part_value s v i < v
  unfolding part_value
  lower_of l f i hi =
      go (leb 6 (value_word s v 0)) refl
    where
      go : (b : Bool) → leb 6 (value_word s v 0) ≡ b → member_word s (value_word s v 1 + i) 1 < v
      go true e = let h = leb-true 6 (value_word s v 0) e in (f h).lower i (omega (arith, holder h l))
      go false e = absurd (omega (arith, leaf (leb-false 6 (value_word s v 0) e)))

  pub runs : v < values s → value_rule s v ≡ true → Runs s v v
  unfolding value_rule
  runs hv h =
      let k = kinds_of (value_word s v 0) h in
      record {
        there = hv;
        kinds = k.0;
        inside = λ l. omega (arith, (k.1 l).run);
        lower = λ i hi. lower_of k.0 k.1 i hi;
      }

pub depth_is : (s : List ℕ) → all_below (values s) (value_rule s) ≡ true → (k : ℕ) → k < values s → depth s k ≡ suc (greatest (part_count s k) (λ i. depth s (part_value s k i)))
unfolding depth
depth_is s h k hk = levels-is (part_count s) (part_value s) (values s) (λ m hm i hi. (runs s m hm (all-at _ _ m h hm)).lower i hi) k hk

pub literal-is : (s : List ℕ) → all_below (values s) (value_rule s) ≡ true → (k : ℕ) → k < values s → literal s k ≡ (not (eqb (value_word s k 0) 0 or eqb (value_word s k 0) 7) and all_below (part_count s k) (λ i. literal s (part_value s k i)))
unfolding literal
literal-is s h k hk = throughout-is (part_count s) (part_value s) (values s) (λ m hm i hi. (runs s m hm (all-at _ _ m h hm)).lower i hi) (λ v. not (eqb (value_word s v 0) 0 or eqb (value_word s v 0) 7)) k hk

-- ---- the decoded values

-- the values that a list of parts names
unfoldable pub held : List Part → List ℕ
held [] = []
held (p ∷ ps) = p.value ∷ held ps

-- the check's own words and the decoded value speak of the same parts
module _ (s : List ℕ) where
  run-held : (a k count : ℕ) → held (map (part_at s) (places (a + k) 1 count)) ≡ map (λ i. member_word s (a + i) 1) (places k 1 count)
  unfolding held part_at places
  run-held a k zero = refl
  run-held a k (suc count) = let z : a + k + 1 ≡ a + (k + 1) = omega arith in rw z (ap (λ rest. member_word s (a + k) 1 ∷ rest) (run-held a (k + 1) count))

  whole_run : (a count : ℕ) → held (map (part_at s) (places a 1 count)) ≡ map (λ i. member_word s (a + i) 1) (places 0 1 count)
  whole_run a count = let z : a + 0 ≡ a = omega arith in rw z at (run-held a 0 count)

  beyond : (k b : ℕ) → 7 < k → choose (within 6 7 k) b 0 ≡ 0
  beyond k b h = no b (skip (leb 6 k) (lt-leb k 7 h)) refl

  held_by : (k a b : ℕ) → held (see (case_of s) (value_from (part_at s) k a b)).parts ≡ map (λ i. member_word s (a + i) 1) (places 0 1 (choose (within 6 7 k) b 0))
  unfolding value_from pick see seen held places choose ◌and◌
  held_by zero a b = refl
  held_by (suc zero) a b = refl
  held_by (suc (suc zero)) a b = refl
  held_by (suc (suc (suc zero))) a b = refl
  held_by (suc (suc (suc (suc zero)))) a b = refl
  held_by (suc (suc (suc (suc (suc zero))))) a b = refl
  held_by (suc (suc (suc (suc (suc (suc zero)))))) a b = whole_run a b
  held_by (suc (suc (suc (suc (suc (suc (suc zero))))))) a b = whole_run a b
  held_by (suc (suc (suc (suc (suc (suc (suc (suc k)))))))) a b = rw (beyond (suc (suc (suc (suc (suc (suc (suc (suc k)))))))) b (omega arith)) refl

  pub held-is : (v : ℕ) → held (see (case_of s) (value_at s v)).parts ≡ map (part_value s v) (places 0 1 (part_count s v))
  unfolding value_at part_value part_count
  held-is v = held_by (value_word s v 0) (value_word s v 1) (value_word s v 2)

module _ (s : List ℕ) (h : bodies s ≡ true) (rules : all_below (values s) (value_rule s) ≡ true) where
  -- of a run of members
  held-lower : (v : ℕ) (xs : List ℕ) → Every (λ m. member_word s m 1 < v) xs → Every (λ j. j < v) (held (map (part_at s) xs))
  unfolding held part_at
  held-lower v [] e = tt
  held-lower v (x ∷ xs) e = (e.0, held-lower v xs e.1)

  run-lower : (v first count : ℕ) → ((i : ℕ) → i < count → member_word s (first + i) 1 < v) → Every (λ j. j < v) (held (map (part_at s) (places first 1 count)))
  run-lower v first count f =
      held-lower v (places first 1 count) (every-place (λ m. member_word s m 1 < v) first 1 count (λ i hi. let z : first + 1 * i ≡ first + i = omega arith in rw z (f i hi)))

  lower_by : (v k a b : ℕ) → (6 ≤ k → k < 8 → (i : ℕ) → i < b → member_word s (a + i) 1 < v) → Every (λ j. j < v) (held (see (case_of s) (value_from (part_at s) k a b)).parts)
  unfolding value_from pick see seen held
  lower_by v zero a b f = tt
  lower_by v (suc zero) a b f = tt
  lower_by v (suc (suc zero)) a b f = tt
  lower_by v (suc (suc (suc zero))) a b f = tt
  lower_by v (suc (suc (suc (suc zero)))) a b f = tt
  lower_by v (suc (suc (suc (suc (suc zero))))) a b f = tt
  lower_by v (suc (suc (suc (suc (suc (suc zero)))))) a b f = run-lower v a b (f (omega arith) (omega arith))
  lower_by v (suc (suc (suc (suc (suc (suc (suc zero))))))) a b f = run-lower v a b (f (omega arith) (omega arith))
  lower_by v (suc (suc (suc (suc (suc (suc (suc (suc k)))))))) a b f = tt

  -- beyond the table there is Null
  pub value-beyond : (v : ℕ) → values s ≤ v → value_at s v ≡ Null
  unfolding value_at value_word value_from pick
  value-beyond v l = rw (body-beyond s h 1 (4 * v + 0) (lit< tt) (omega (arith, wholes s h 1 (lit< tt)))) refl

  -- the parts of every value have lower numbers
  pub lower-parts : (v : ℕ) → Every (λ j. j < v) (held (see (case_of s) (value_at s v)).parts)
  lower-parts v = go (ltb v (values s)) refl
    where
      go : (b : Bool) → ltb v (values s) ≡ b → Every (λ j. j < v) (held (see (case_of s) (value_at s v)).parts)
      go true e = unfold value_at in lower_by v (value_word s v 0) (value_word s v 1) (value_word s v 2) (λ low high i hi. of_run (runs s v (ltb-true _ _ e) (all-at _ _ v rules (ltb-true _ _ e))) low high i hi)
        where
          of_run : Runs s v v → 6 ≤ value_word s v 0 → value_word s v 0 < 8 → (i : ℕ) → i < value_word s v 2 → member_word s (value_word s v 1 + i) 1 < v
          of_run r low high i hi = unfold part_value in r.lower i (omega (arith, holder s v low high))
      go false e = rw (value-beyond v (ltb-false _ _ e)) (unfold see seen held in tt)

  parts_same : (g h : ℕ → ℕ → Bool) (ps qs : List Part) → Every (λ j. g j ≡ h j) (held ps) → same_parts g ps qs ≡ same_parts h ps qs
  unfolding same_parts held ◌and◌
  parts_same g h [] [] e = refl
  parts_same g h [] (q ∷ qs) e = refl
  parts_same g h (p ∷ ps) [] e = refl
  parts_same g h (p ∷ ps) (q ∷ qs) e = cc (parts_same g h ps qs e.1)

  by_parts : (g h : ℕ → ℕ → Bool) (m : ℕ) → ((j : ℕ) → j < m → g j ≡ h j) → ◌≡◌ {A = ℕ → Bool} (λ n. alike g (see (case_of s) (value_at s m)) (see (case_of s) (value_at s n))) (λ n. alike h (see (case_of s) (value_at s m)) (see (case_of s) (value_at s n)))
  unfolding alike
  by_parts g h m same =
      fun_ext (λ n. cc (parts_same g h (see (case_of s) (value_at s m)).parts (see (case_of s) (value_at s n)).parts (every_map (held (see (case_of s) (value_at s m)).parts) same (lower-parts m))))

  -- two values are equal where their kinds, numbers and parts are
  pub same_value-is : (k n : ℕ) → same_value (case_of s) k n ≡ alike (same_value (case_of s)) (see (case_of s) (value_at s k)) (see (case_of s) (value_at s n))
  unfolding same_value case_of
  same_value-is k n =
      ap (λ (f : ℕ → Bool). f n) (made-is (λ n. false) (λ eq m n. alike eq (see (case_of s) (value_at s m)) (see (case_of s) (value_at s n))) (suc k) (λ g h m hm same. by_parts g h m same) k (omega arith))
