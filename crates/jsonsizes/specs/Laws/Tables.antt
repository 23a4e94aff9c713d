-- A value's size by those below it, and the tables filled upward
use Rattle.std.specs.Prelude.{◌≡◌, true, List, set}
use Rattle.std.proofs.Math.Path.{refl, ap}
use Rattle.std.proofs.Common.{sym, ◌∙◌, length-set}
use Prim.Native.Nat.{ℕ, zero, suc, ◌+◌, ◌*◌, ◌<◌, ◌≤◌, min}
use native.Mathlib.Omega.{arith}
use Rattle.std.proofs.Math.ListN.{length, length-append}
use borrow.Author.Tests.{ltb-true}
use Rattle.meaning.specs.Tests.{pick}
use Rattle.meaning.specs.Case.{strings, values, members, member_word, value_word}
use Rattle.meaning.specs.Check.{Checked, value_rule, object_item, is_string, in_table}
use Rattle.laws.specs.Tests.{Filled, filled_none, both, all-at}
use Rattle.laws.specs.Values.{runs}
use Rattle.laws.specs.Checked.{rules, checked-bodies, checked-values, values-most}
use Rattle.jsonput.specs.Filled.{fill-at, filled-all}
use Rattle.stringcheck.specs.Mosts.{string-most, member-most}
use Rattle.jsonput.specs.Runs.{comma, run_text, run_long_lem}
use Rattle.jsonput.specs.Values.{Read, item_text, value_text, there_of}
use Rattle.jsonput.specs.Laws.Values.{comma-is, high, long, part_falls}
use Rattle.jsonsizes.specs.Sizes.{item_long, run_long, frame, string_long, value_long, Ready, Readies, Sums}

-- ---- a run's text by its items

-- the comma before each but the first
text-more : (s : List ℕ) (k a n : ℕ) → length (run_text (item_text s k) a 1 (suc n)) + 1 ≡ run_long s k a (suc n)
text-more s k a zero = unfold run_text run_long item_long comma in let q : a + 1 * 0 ≡ a + 0 = omega arith in omega (arith, ap (λ (m : ℕ). length (item_text s k m)) q)
text-more s k a (suc n) =
    let step : run_long s k a (suc (suc n)) ≡ run_long s k a (suc n) + item_long s k (a + suc n) = (unfold run_long in refl) in
    let one : item_long s k (a + suc n) ≡ 1 + length (item_text s k (a + suc n)) = (unfold item_long in refl) in
    let q : a + 1 * suc n ≡ a + suc n = omega arith in
    omega (
      arith,
      text-more s k a n,
      step,
      one,
      run_long_lem (item_text s k) a 1 (suc n),
      length-append (comma (suc n)) (item_text s k (a + 1 * suc n)),
      ap (λ (m : ℕ). length (item_text s k m)) q,
      ap length (comma-is (suc n) (λ e. absurd (omega arith))),
    )

pub framed : (s : List ℕ) (k a n : ℕ) → length (run_text (item_text s k) a 1 n) + 2 ≡ frame n + run_long s k a n
framed s k a zero = unfold run_text run_long frame in refl
framed s k a (suc n) = let e : frame (suc n) ≡ 1 = (unfold frame in refl) in omega (arith, e, text-more s k a n)

pub frame-none : (n : ℕ) → n ≡ 0 → 2 ≡ frame n
unfolding frame
frame-none n e = rw e refl

pub frame-some : (n : ℕ) → (n ≡ 0 → ⊥) → 1 ≡ frame n
unfolding frame
frame-some zero h = absurd (h refl)
frame-some (suc n) h = refl

-- ---- what a holder holds

module _ {s : List ℕ} {v k a b : ℕ} (w : Read s v k a b) (h : 6 ≤ k) where
  there : v < values s
  there = there_of w.checked v (omega (arith, w.kind))

  rule : value_rule s v ≡ true
  rule = all-at (value_rule s) (values s) v (checked-values w.checked) there

  name-is : k ≡ 7 → (i : ℕ) → i < b → member_word s (a + i) 0 < strings s
  name-is e i l = let q : member_word s (value_word s v 1 + i) 0 < strings s = at-items (items (sym w.kind ∙ e) rule) in rw w.first q
    where
      items : value_word s v 0 ≡ 7 → value_rule s v ≡ true → object_item s v (value_word s v 1) i ≡ true
      items q r = unfold value_rule pick in all-at (object_item s v (value_word s v 1)) (value_word s v 2) i (both (in_table (members s) 1 (value_word s v 1) (value_word s v 2)) _ (both _ _ (rw q at r)).1).1 (omega (arith, w.items))

      at-items : object_item s v (value_word s v 1) i ≡ true → member_word s (value_word s v 1 + i) 0 < strings s
      at-items r = unfold object_item in ltb-true _ _ (both (is_string s (member_word s (value_word s v 1 + i) 0)) _ (both _ _ r).0).0

  pub inside : a + b ≤ 524288
  inside =
      omega (arith, w.first, w.items, (runs s v there rule).inside (omega (arith, w.kind)), member-most s (rules s w.checked).mosts (checked-bodies w.checked))

  pub readies : {limit : ℕ} {names sizes : List ℕ} → Filled 0 (string_long s limit) names (strings s) → Filled 0 (value_long s limit) sizes v → Readies s limit names sizes k a b
  readies {limit} {names} {sizes} f g = record { ready = one }
    where
      one : (i : ℕ) → i < b → Ready s limit names sizes k (a + i)
      one i l =
          let lower : member_word s (a + i) 1 < v = part_falls (member_word s (a + i) 1) refl w h l in
          let most = string-most s (rules s w.checked).mosts in
          let name : 7 ≤ k → member_word s (a + i) 0 < strings s = λ z. name-is (omega (arith, high w)) i l in
          record {
            checked = w.checked;
            high = high w;
            few = omega (arith, lower, there, values-most w.checked);
            held = g.at (member_word s (a + i) 1) lower;
            name-few = λ z. omega (arith, most, name z);
            name = λ z. f.at (member_word s (a + i) 0) (name z);
          }

pub holder-readies : {s : List ℕ} {limit : ℕ} {names sizes : List ℕ} {v k a b x y : ℕ} → Read s v k a b → 6 ≤ k → x ≡ a → y ≡ b → Filled 0 (string_long s limit) names (strings s) → Filled 0 (value_long s limit) sizes v → Readies s limit names sizes k x y
holder-readies w h ex ey f g = rw (ex, ey) (readies w h f g)

pub holder-inside : {s : List ℕ} {v k a b x y : ℕ} → Read s v k a b → 6 ≤ k → x ≡ a → y ≡ b → x + y ≤ 524288
holder-inside w h ex ey = omega (arith, inside w h)

pub holder-counted : (s : List ℕ) (limit r v k a b x y start : ℕ) → r ≡ min (start + run_long s k x y) limit → start ≡ frame b → x ≡ a → y ≡ b → Read s v k a b → 6 ≤ k → r ≡ min (length (value_text s v)) limit
holder-counted s limit r v k a b x y start er es ex ey w h =
    er ∙ ap (λ (n : ℕ). min n limit) (rw (es, ex, ey) (sym (framed s k a b)) ∙ sym (long w h))

-- ---- the tables

-- values below v are counted
pub record Tabled (s : List ℕ) (limit n : ℕ) (sizes sums : List ℕ) (v : ℕ) : Type 0 where
  pub low : v ≤ n
  pub many : n ≡ values s
  pub few : n ≤ 16384
  pub size : length sizes ≡ 16384
  pub is : Filled 0 (value_long s limit) sizes v
  pub kept : Sums s limit sums

pub tabled_none : {s : List ℕ} {limit n : ℕ} {sizes sums : List ℕ} → Checked s → n ≡ values s → length sizes ≡ 16384 → Sums s limit sums → Tabled s limit n sizes sums 0
tabled_none c e l g = record { low = omega arith; many = e; few = omega (arith, values-most c); size = l; is = filled_none; kept = g }

pub tabled_more : {s : List ℕ} {limit n : ℕ} {sizes sums sums' : List ℕ} {v at r : ℕ} → Tabled s limit n sizes sums v → v < n → at ≡ v → r ≡ min (length (value_text s v)) limit → Sums s limit sums' → Tabled s limit n (set sizes at r) sums' (v + 1)
tabled_more {s} {limit} {n} {sizes} {sums} {sums'} {v} {at} {r} t l e q g = record {
  low = omega arith;
  many = t.many;
  few = t.few;
  size = length-set sizes at r ∙ t.size;
  is = fill-at r e (omega (arith, t.size, t.few)) t.is q;
  kept = g;
}

pub tabled_all : {s : List ℕ} {limit n : ℕ} {sizes sums : List ℕ} {v : ℕ} → Tabled s limit n sizes sums v → n ≤ v → Filled 0 (value_long s limit) sizes (values s)
tabled_all {s} t h = filled-all (values s) t.many h t.low t.is

-- strings below k are counted
pub record Spelt (s : List ℕ) (limit n : ℕ) (sizes : List ℕ) (k : ℕ) : Type 0 where
  pub low : k ≤ n
  pub many : n ≡ strings s
  pub few : n ≤ 16384
  pub size : length sizes ≡ 16384
  pub is : Filled 0 (string_long s limit) sizes k

pub spelt-none : {s : List ℕ} {limit n : ℕ} {sizes : List ℕ} → Checked s → n ≡ strings s → length sizes ≡ 16384 → Spelt s limit n sizes 0
spelt-none {s} c e l = record { low = omega arith; many = e; few = omega (arith, string-most s (rules s c).mosts); size = l; is = filled_none }

pub spelt-more : {s : List ℕ} {limit n : ℕ} {sizes : List ℕ} {k at r : ℕ} → Spelt s limit n sizes k → k < n → at ≡ k → r ≡ string_long s limit k → Spelt s limit n (set sizes at r) (k + 1)
spelt-more {s} {limit} {n} {sizes} {k} {at} {r} t l e q = record {
  low = omega arith;
  many = t.many;
  few = t.few;
  size = length-set sizes at r ∙ t.size;
  is = fill-at r e (omega (arith, t.size, t.few)) t.is q;
}

pub spelt-all : {s : List ℕ} {limit n : ℕ} {sizes : List ℕ} {k : ℕ} → Spelt s limit n sizes k → n ≤ k → Filled 0 (string_long s limit) sizes (strings s)
spelt-all {s} t h = filled-all (strings s) t.many h t.low t.is
