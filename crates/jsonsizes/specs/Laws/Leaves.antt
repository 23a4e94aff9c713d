-- Strings, numbers and values that hold no others, counted up to a limit
use Rattle.std.specs.Prelude.{◌≡◌, Bool, List, eqb, take, ℤ, pos, ◌<ℤ◌, ◌≤ℤ◌, unsigned_abs}
use Rattle.std.proofs.Math.Path.{refl, sym, ap}
use Rattle.std.proofs.Common.{◌∙◌, length-append, take_all, to_z}
use Rattle.std.proofs.Math.Bool.{true, false}
use Prim.Native.Nat.{ℕ, zero, suc, ◌+◌, ◌*◌, ◌/◌, ◌<◌, ◌≤◌, min}
use native.Mathlib.Omega.{arith}
use Rattle.std.proofs.Math.Dec.{ltb}
use Rattle.std.proofs.Math.ListN.{length, get_or}
use mir.Syntax.{w64}
use borrow.Author.Tests.{lt-ltb, le-ltb, ltb-true, ltb-false}
use Rattle.meaning.specs.Tests.{◌or◌, choose, pick}
use Rattle.meaning.specs.Case.{strings, values, text, value_word}
use Rattle.meaning.specs.Check.{Checked, value_rule, is_string}
use Rattle.laws.specs.Tests.{Filled, yes, no, both, all-at}
use Rattle.laws.specs.Checked.{rules, checked-values}
use Rattle.stringcheck.specs.Mosts.{string-most}
use Rattle.jsontext.specs.Values.{Truth, EntityOf, Decimal}
use Rattle.jsontrace.specs.Text.{escaped_byte, escaped, quoted, natural, integer, shown}
use Rattle.jsonput.specs.Values.{Read, value_text, text_from, there_of}
use Rattle.jsonput.specs.Laws.Strings.{control-long, marked-long, itself-long, escaped-step, quoted-long}
use Rattle.jsonput.specs.Laws.Numbers.{natural-low, high-long, below_zero, above_zero}
use Rattle.jsonput.specs.Laws.Values.{true-is, false-is, decimal-long, entity-long, null_is, truth_is, int_is, extension-is, string-is, reference_is, value-is}
use Rattle.jsonsizes.specs.Sizes.{plain_long, leaf_long, string_long, Named}

-- ---- strings

pub control-size : (c : ℕ) → c < 32 → 6 ≡ length (escaped_byte c)
control-size c h = sym (control-long c h)

pub marked-size : (c : ℕ) {r : Bool} → r ≡ (eqb c 34 or eqb c 92) → r ≡ true → 2 ≡ length (escaped_byte c)
marked-size c e h = sym (marked-long c (sym e ∙ h))

pub itself-size : (c : ℕ) {r : Bool} → r ≡ (eqb c 34 or eqb c 92) → r ≡ false → 32 ≤ c → 1 ≡ length (escaped_byte c)
itself-size c e h l = sym (itself-long c (sym e ∙ h) l)

-- the first i bytes are counted
pub record Measuring (t : List ℕ) (limit i total : ℕ) : Type 0 where
  pub low : i ≤ length t
  pub is : total ≡ min (length (escaped (take i t))) limit

pub measuring_none : (t : List ℕ) (limit : ℕ) → Measuring t limit 0 0
unfolding escaped
measuring_none t limit = record { low = omega arith; is = omega arith }

pub measuring_more : {t : List ℕ} {limit i total n r : ℕ} → Measuring t limit i total → i < length t → n ≡ length (escaped_byte (get_or t i 0)) → r ≡ min (total + n) limit → Measuring t limit (i + 1) r
measuring_more {t} {limit} {i} {total} {n} {r} m l en er = record {
  low = omega arith;
  is = omega (arith, m.is, en, er, ap length (escaped-step t i l), length-append (escaped (take i t)) (escaped_byte (get_or t i 0)));
}

pub measuring_all : {t : List ℕ} {limit i total : ℕ} → Measuring t limit i total → length t ≤ i → total ≡ min (length (escaped t)) limit
measuring_all {t} {limit} {i} m h = m.is ∙ ap (λ (l : List ℕ). min (length (escaped l)) limit) (take_all i t h)

pub quoted-size : (t : List ℕ) (limit e r : ℕ) (u : List ℕ) → r ≡ min (e + 2) limit → e ≡ min (length (escaped t)) limit → t ≡ u → r ≡ min (length (quoted u)) limit
quoted-size t limit e r u er ee et = omega (arith, er, ee, ap (λ (l : List ℕ). length (escaped l)) et, quoted-long u)

-- ---- numbers

pub digit-size : (n : ℕ) → n < 10 → 1 ≡ length (natural n)
digit-size n h = sym (ap length (natural-low n h))

pub digits-size : (n m : ℕ) → 10 ≤ n → m ≡ length (natural (n / 10)) → m + 1 ≡ length (natural n)
digits-size n m h e = omega (arith, high-long n h)

pub positive-size : (z : ℤ) (m : ℕ) → pos 0 ≤ℤ z → m ≡ length (natural (unsigned_abs z)) → m ≡ length (integer z)
positive-size z m h e = e ∙ sym (ap length (above_zero z h))

pub negative-size : (z : ℤ) (m : ℕ) → z <ℤ pos 0 → m ≡ length (natural (unsigned_abs z)) → m + 1 ≡ length (integer z)
negative-size z m h e = omega (arith, ap length (below_zero z h))

-- ---- by kind

pub true-size : (b : ℕ) → b ≡ 1 → 4 ≡ length (shown (Truth (eqb b 1)))
true-size b e = sym (ap length (true-is b e))

pub false-size : (b : ℕ) → (b ≡ 1 → ⊥) → 5 ≡ length (shown (Truth (eqb b 1)))
false-size b n = sym (ap length (false-is b n))

module _ (limit r k a b : ℕ) where
  pub null_plain : r ≡ min (0 + 4) limit → k < 1 → r ≡ min (plain_long k a b) limit
  unfolding plain_long
  null_plain er h = er ∙ ap (λ (x : ℕ). min x limit) (sym (yes _ (lt-ltb k 1 h)))

  pub truth_plain : (n : ℕ) → r ≡ min (0 + n) limit → n ≡ length (shown (Truth (eqb a 1))) → 1 ≤ k → k < 2 → r ≡ min (plain_long k a b) limit
  unfolding plain_long
  truth_plain n er en l h = er ∙ ap (λ (x : ℕ). min x limit) (zero-add n ∙ en ∙ sym (no _ (le-ltb k 1 l) (yes _ (lt-ltb k 2 h))))
    where
      zero-add : (n : ℕ) → 0 + n ≡ n
      zero-add n = omega arith

  pub int-plain : (n bits : ℕ) → r ≡ min (0 + n) limit → n ≡ length (integer (to_z w64 bits)) → bits ≡ a + 4294967296 * b → 2 ≤ k → r ≡ min (plain_long k a b) limit
  unfolding plain_long
  int-plain n bits er en q l = er ∙ ap (λ (x : ℕ). min x limit) (zero-add n ∙ en ∙ ap (λ (x : ℕ). length (integer (to_z w64 x))) q ∙ sym (no _ (le-ltb k 1 (omega arith)) (no _ (le-ltb k 2 l) refl)))
    where
      zero-add : (n : ℕ) → 0 + n ≡ n
      zero-add n = omega arith

module _ (names : List ℕ) (limit r k a b : ℕ) where
  pub leaf-plain : r ≡ min (plain_long k a b) limit → k < 3 → r ≡ min (leaf_long names k a b) limit
  unfolding leaf_long
  leaf-plain er h = er ∙ ap (λ (x : ℕ). min x limit) (sym (yes _ (lt-ltb k 3 h)))

  pub leaf-decimal : (x : ℕ) → r ≡ min (x + 34) limit → x ≡ get_or names a 0 → 3 ≤ k → k < 4 → r ≡ min (leaf_long names k a b) limit
  unfolding leaf_long
  leaf-decimal x er ex l h = er ∙ ap (λ (x : ℕ). min x limit) (ap (λ (y : ℕ). y + 34) ex ∙ sym (no _ (le-ltb k 3 l) (yes _ (lt-ltb k 4 h))))

  pub leaf-text : (x : ℕ) → r ≡ min (x + 0) limit → x ≡ get_or names a 0 → 4 ≤ k → k < 5 → r ≡ min (leaf_long names k a b) limit
  unfolding leaf_long
  leaf-text x er ex l h = er ∙ ap (λ (x : ℕ). min x limit) (nothing-more x ∙ ex ∙ sym (no _ (le-ltb k 3 (omega arith)) (no _ (le-ltb k 4 l) (yes _ (lt-ltb k 5 h)))))
    where
      nothing-more : (x : ℕ) → x + 0 ≡ x
      nothing-more x = omega arith

  pub leaf-entity : (x y z : ℕ) → r ≡ min (z + 28) limit → z ≡ min (x + y) limit → x ≡ get_or names a 0 → y ≡ get_or names b 0 → 5 ≤ k → r ≡ min (leaf_long names k a b) limit
  unfolding leaf_long
  leaf-entity x y z er ez ex ey l =
      let whole : choose (ltb k 3) (plain_long k a b) (choose (ltb k 4) (get_or names a 0 + 34) (choose (ltb k 5) (get_or names a 0) (get_or names a 0 + get_or names b 0 + 28))) ≡ get_or names a 0 + get_or names b 0 + 28 = no _ (le-ltb k 3 (omega arith)) (no _ (le-ltb k 4 (omega arith)) (no _ (le-ltb k 5 l) refl)) in
      omega (arith, whole, er, ez, ex, ey)

pub named-first : {k b : ℕ} (a : ℕ) → Named k a b → 3 ≤ k → a < 16384
named-first a n h = n.first h

pub named-second : {k a : ℕ} (b : ℕ) → Named k a b → 5 ≤ k → b < 16384
named-second b n h = n.second h

-- ---- a leaf of the case

-- a form's bytes but for its strings
extension-long : (t : List ℕ) → length (shown (Decimal t)) ≡ length (quoted t) + 34
extension-long t = omega (arith, decimal-long t)

reference_long : (t i : List ℕ) → length (shown (EntityOf t i)) ≡ length (quoted t) + length (quoted i) + 28
reference_long t i = omega (arith, entity-long t i)

module _ {s : List ℕ} (c : Checked s) (v : ℕ) where
  -- the first word of a decimal, a string or an entity names a string; of an entity the second too
  first-named : (k : ℕ) → value_word s v 0 ≡ k → 3 ≤ k → k < 6 → value_rule s v ≡ true → value_word s v 1 < strings s
  unfolding value_rule pick
  first-named zero e l h r = absurd (omega arith)
  first-named (suc zero) e l h r = absurd (omega arith)
  first-named (suc (suc zero)) e l h r = absurd (omega arith)
  first-named (suc (suc (suc zero))) e l h r = ltb-true _ _ (both (is_string s (value_word s v 1)) _ (rw e at r)).0
  first-named (suc (suc (suc (suc zero)))) e l h r = ltb-true _ _ (both (is_string s (value_word s v 1)) _ (rw e at r)).0
  first-named (suc (suc (suc (suc (suc zero))))) e l h r = ltb-true _ _ (both (is_string s (value_word s v 1)) _ (rw e at r)).0
  first-named (suc (suc (suc (suc (suc (suc k)))))) e l h r = absurd (omega arith)

  second-named : value_word s v 0 ≡ 5 → value_rule s v ≡ true → value_word s v 2 < strings s
  unfolding value_rule pick
  second-named e r = ltb-true _ _ (both (is_string s (value_word s v 2)) _ (both (is_string s (value_word s v 1)) _ (rw e at r)).1).0

  rule : 3 ≤ value_word s v 0 → value_rule s v ≡ true
  rule h = all-at (value_rule s) (values s) v (checked-values c) (there_of c v (omega arith))

module _ {s : List ℕ} {v k a b : ℕ} (w : Read s v k a b) (h : k < 6) where
  first-string : 3 ≤ k → a < strings s
  first-string l = omega (arith, w.first, first-named w.checked v k (sym w.kind) l h (rule w.checked v (omega (arith, w.kind))))

  second-string : 5 ≤ k → b < strings s
  second-string l = omega (arith, w.items, second-named w.checked v (omega (arith, w.kind)) (rule w.checked v (omega (arith, w.kind))))

  pub leaf-named : Named k a b
  leaf-named =
      let most = string-most s (rules s w.checked).mosts in
      record { first = λ l. omega (arith, most, first-string l); second = λ l. omega (arith, most, second-string l) }

  by_kind : (names : List ℕ) (limit : ℕ) → Filled 0 (string_long s limit) names (strings s) → min (leaf_long names k a b) limit ≡ min (length (text_from s k a b)) limit
  by_kind names limit f = go (ltb k 3) refl
    where
      high : 3 ≤ k → min (leaf_long names k a b) limit ≡ min (length (text_from s k a b)) limit
      high l = hi (ltb k 4) refl
        where
          one : get_or names a 0 ≡ min (length (quoted (text s a))) limit
          one = f.at a (first-string l)

          hi : (t : Bool) → ltb k 4 ≡ t → min (leaf_long names k a b) limit ≡ min (length (text_from s k a b)) limit
          hi true e = unfold leaf_long in
              let q : k ≡ 3 = omega (arith, ltb-true k 4 e) in
              let d : choose (ltb k 3) (plain_long k a b) (choose (ltb k 4) (get_or names a 0 + 34) (choose (ltb k 5) (get_or names a 0) (get_or names a 0 + get_or names b 0 + 28))) ≡ get_or names a 0 + 34 = no _ (le-ltb k 3 l) (yes _ e) in
              omega (arith, d, one, ap length (extension-is s k a b q), extension-long (text s a))
          hi false e = top (ltb k 5) refl
            where
              top : (t : Bool) → ltb k 5 ≡ t → min (leaf_long names k a b) limit ≡ min (length (text_from s k a b)) limit
              top true g = unfold leaf_long in
                  let q : k ≡ 4 = omega (arith, ltb-true k 5 g, ltb-false k 4 e) in
                  let d : choose (ltb k 3) (plain_long k a b) (choose (ltb k 4) (get_or names a 0 + 34) (choose (ltb k 5) (get_or names a 0) (get_or names a 0 + get_or names b 0 + 28))) ≡ get_or names a 0 = no _ (le-ltb k 3 l) (no _ e (yes _ g)) in
                  omega (arith, d, one, ap length (string-is s k a b q))
              top false g = unfold leaf_long in
                  let q : k ≡ 5 = omega (arith, h, ltb-false k 5 g) in
                  let two : get_or names b 0 ≡ min (length (quoted (text s b))) limit = f.at b (second-string (omega (arith, q))) in
                  let d : choose (ltb k 3) (plain_long k a b) (choose (ltb k 4) (get_or names a 0 + 34) (choose (ltb k 5) (get_or names a 0) (get_or names a 0 + get_or names b 0 + 28))) ≡ get_or names a 0 + get_or names b 0 + 28 = no _ (le-ltb k 3 l) (no _ e (no _ g refl)) in
                  omega (arith, d, one, two, ap length (reference_is s k a b q), reference_long (text s a) (text s b))

      plain : k < 3 → plain_long k a b ≡ length (text_from s k a b)
      plain l = lo (ltb k 1) refl
        where
          lo : (t : Bool) → ltb k 1 ≡ t → plain_long k a b ≡ length (text_from s k a b)
          lo true e = unfold plain_long in yes _ e ∙ sym (ap length (null_is s k a b (omega (arith, ltb-true k 1 e))))
          lo false e = mid (ltb k 2) refl
            where
              mid : (t : Bool) → ltb k 2 ≡ t → plain_long k a b ≡ length (text_from s k a b)
              mid true g = unfold plain_long in no _ e (yes _ g) ∙ sym (ap length (truth_is s k a b (omega (arith, ltb-true k 2 g, ltb-false k 1 e))))
              mid false g = unfold plain_long in no _ e (no _ g refl) ∙ sym (ap length (int_is s k a b (a + 4294967296 * b) (omega (arith, l, ltb-false k 2 g)) refl))

      go : (t : Bool) → ltb k 3 ≡ t → min (leaf_long names k a b) limit ≡ min (length (text_from s k a b)) limit
      go true e = unfold leaf_long in ap (λ (x : ℕ). min x limit) (yes _ e ∙ plain (ltb-true k 3 e))
      go false e = high (ltb-false k 3 e)

pub leaf-counted : (s names : List ℕ) (limit r v k a b : ℕ) → r ≡ min (leaf_long names k a b) limit → Read s v k a b → k < 6 → Filled 0 (string_long s limit) names (strings s) → r ≡ min (length (value_text s v)) limit
leaf-counted s names limit r v k a b er w h f = er ∙ by_kind w h names limit f ∙ ap (λ (l : List ℕ). min (length l) limit) (sym (value-is w))
