-- A value is clear where its own test holds and all that it holds is clear; the table of marks
use Rattle.std.specs.Prelude.{◌≡◌, Bool, true, List, [], map, eqb, leb, length, get_or, set}
use Rattle.std.proofs.Math.Path.{refl, sym, ap, ap₂}
use Rattle.std.proofs.Common.{◌∙◌, length-set, eq-eqb, ne_eqb, leb-true, leb-false}
use Rattle.std.proofs.Math.Bool.{false, not}
use Prim.Native.Nat.{ℕ, zero, suc, ◌+◌, ◌<◌, ◌≤◌}
use native.Mathlib.Omega.{arith}
use Rattle.meaning.specs.Tests.{◌and◌, pick, all_below}
use Rattle.meaning.specs.Case.{values, text, member_word, value_word, value_from, value_at, part_at, places}
use Rattle.meaning.specs.Check.{Checked, mosts, part_count, part_value}
use Rattle.laws.specs.Tests.{Filled, filled_none, and-true, and_assoc, stop, pass, after, all_same, all-at}
use Rattle.laws.specs.Values.{Runs, runs, leaf, holder}
use Rattle.laws.specs.Checked.{rules, checked-values, values-most}
use Rattle.jsonput.specs.Filled.{fill-at, filled-all}
use Rattle.valuecheck.specs.Blocks.{Marked}
use Rattle.valuecheck.specs.Laws.{marked_next}
use Rattle.jsontrace.specs.Export.{parts_of, tree_of, tree_at, form_name, not_form, clear, clear_parts}
use Rattle.jsonput.specs.Values.{kind-low, tree_is}
use Rattle.jsonclear.specs.Clear.{own_clear, clear_at}

-- the first apart
pub front : (f : ℕ → Bool) (n : ℕ) → all_below (suc n) f ≡ (f 0 and all_below n (λ i. f (suc i)))
unfolding all_below ◌and◌
front f zero = sym (and-true (f 0))
front f (suc n) = ap (λ (b : Bool). b and f (suc n)) (front f n) ∙ and_assoc (f 0) (all_below n (λ i. f (suc i))) (f (suc n))

-- ---- parts

step : (first i : ℕ) → first + 1 + i ≡ first + suc i
step first i = omega arith

module _ (s : List ℕ) (name : ℕ → List ℕ) where
  parts-clear : (first n : ℕ) → clear_parts (parts_of name (tree_at s) (map (part_at s) (places first 1 n))) ≡ all_below n (λ i. clear_at s (member_word s (first + i) 1))
  unfolding clear_parts parts_of places part_at all_below clear_at
  parts-clear first zero = refl
  parts-clear first (suc n) =
      let zeroth : first ≡ first + 0 = omega arith in
      let rest : all_below n (λ i. clear_at s (member_word s (first + 1 + i) 1)) ≡ all_below n (λ i. clear_at s (member_word s (first + suc i) 1)) = all_same _ _ n (λ i h. ap (λ (m : ℕ). clear_at s (member_word s m 1)) (step first i)) in
      ap₂ ◌and◌ (ap (λ (m : ℕ). clear_at s (member_word s m 1)) zeroth) (parts-clear (first + 1) n ∙ rest)
      ∙ sym (front (λ i. clear_at s (member_word s (first + i) 1)) n)

  form_of : (first n : ℕ) → not_form (parts_of name (tree_at s) (map (part_at s) (places first 1 n))) ≡ not (eqb n 1 and form_name (name (member_word s first 0)))
  unfolding not_form parts_of places part_at ◌and◌
  form_of first zero = refl
  form_of first (suc zero) = refl
  form_of first (suc (suc n)) =
      let z : (eqb (suc (suc n)) 1 and form_name (name (member_word s first 0))) ≡ false = stop _ (ne_eqb (suc (suc n)) 1 (λ e. absurd (omega (arith, e)))) in
      sym (ap not z)

-- ---- a value

module _ (s : List ℕ) (v : ℕ) where
  abbrev by-words : ℕ → Bool
  by-words k = clear (tree_of s (tree_at s) (value_from (part_at s) k (value_word s v 1) (value_word s v 2)))

  abbrev own-and-parts : Bool
  own-and-parts = own_clear s v and all_below (part_count s v) (λ i. clear_at s (part_value s v i))

  clear-leaf : (k : ℕ) → k < 6 → by-words k ≡ true
  unfolding tree_of value_from pick clear
  clear-leaf zero h = refl
  clear-leaf (suc zero) h = refl
  clear-leaf (suc (suc zero)) h = refl
  clear-leaf (suc (suc (suc zero))) h = refl
  clear-leaf (suc (suc (suc (suc zero)))) h = refl
  clear-leaf (suc (suc (suc (suc (suc zero))))) h = refl
  clear-leaf (suc (suc (suc (suc (suc (suc k)))))) h = absurd (omega arith)

  no-object : (value_word s v 0 ≡ 7 → ⊥) → own_clear s v ≡ true
  unfolding own_clear
  no-object n = ap not (stop _ (ne_eqb (value_word s v 0) 7 n))

  no-parts : value_word s v 0 < 6 → all_below (part_count s v) (λ i. clear_at s (part_value s v i)) ≡ true
  unfolding all_below
  no-parts h = ap (λ (n : ℕ). all_below n (λ i. clear_at s (part_value s v i))) (leaf s v h)

  is_leaf : value_word s v 0 < 6 → by-words (value_word s v 0) ≡ own-and-parts
  is_leaf h = clear-leaf (value_word s v 0) h ∙ sym (pass (no-object (λ q. absurd (omega (arith, q)))) (no-parts h))

  held : 6 ≤ value_word s v 0 → value_word s v 0 < 8 → all_below (value_word s v 2) (λ i. clear_at s (member_word s (value_word s v 1 + i) 1)) ≡ all_below (part_count s v) (λ i. clear_at s (part_value s v i))
  unfolding part_value
  held h l = ap (λ (n : ℕ). all_below n (λ i. clear_at s (member_word s (value_word s v 1 + i) 1))) (sym (holder s v h l))

  is-array : value_word s v 0 ≡ 6 → by-words 6 ≡ own-and-parts
  unfolding tree_of value_from pick clear
  is-array e =
      parts-clear s (λ n. []) (value_word s v 1) (value_word s v 2)
      ∙ held (omega (arith, e)) (omega (arith, e))
      ∙ sym (after (no-object (λ q. absurd (omega (arith, q, e)))))

  own-object : value_word s v 0 ≡ 7 → own_clear s v ≡ not (eqb (value_word s v 2) 1 and form_name (text s (member_word s (value_word s v 1) 0)))
  unfolding own_clear
  own-object e = ap not (after (eq-eqb (value_word s v 0) 7 e))

  is-object : value_word s v 0 ≡ 7 → by-words 7 ≡ own-and-parts
  unfolding tree_of value_from pick clear
  is-object e =
      ap₂ ◌and◌ (form_of s (text s) (value_word s v 1) (value_word s v 2) ∙ sym (own-object e)) (parts-clear s (text s) (value_word s v 1) (value_word s v 2) ∙ held (omega (arith, e)) (omega (arith, e)))

pub clear-is : {s : List ℕ} (c : Checked s) (v : ℕ) → clear_at s v ≡ (own_clear s v and all_below (part_count s v) (λ i. clear_at s (part_value s v i)))
unfolding clear_at value_at
clear-is {s} c v = ap clear (tree_is c v) ∙ go (leb 6 (value_word s v 0)) refl
  where
    top : 6 ≤ value_word s v 0 → (b : Bool) → leb 7 (value_word s v 0) ≡ b → by-words s v (value_word s v 0) ≡ own-and-parts s v
    top l true t = let q : value_word s v 0 ≡ 7 = omega (arith, leb-true 7 (value_word s v 0) t, kind-low c v) in ap (by-words s v) q ∙ is-object s v q
    top l false t = let q : value_word s v 0 ≡ 6 = omega (arith, l, leb-false 7 (value_word s v 0) t) in ap (by-words s v) q ∙ is-array s v q

    go : (b : Bool) → leb 6 (value_word s v 0) ≡ b → by-words s v (value_word s v 0) ≡ own-and-parts s v
    go false e = is_leaf s v (leb-false 6 (value_word s v 0) e)
    go true e = top (leb-true 6 (value_word s v 0) e) (leb 7 (value_word s v 0)) refl

-- ---- the table

pub checked-mosts : {s : List ℕ} → Checked s → mosts s ≡ true
checked-mosts {s} c = (rules s c).mosts

pub record Marking (s : List ℕ) (n : ℕ) (marks blocks : List Bool) (v : ℕ) : Type 0 where
  pub checked : Checked s
  pub low : v ≤ n
  pub many : n ≡ values s
  pub few : n ≤ 16384
  pub size : length marks ≡ 16384
  pub is : Filled false (clear_at s) marks v
  pub kept : Marked s marks v blocks

pub marking_none : {s : List ℕ} {n : ℕ} {marks blocks : List Bool} → Checked s → n ≡ values s → length marks ≡ 16384 → Marked s marks 0 blocks → Marking s n marks blocks 0
marking_none c e l m = record { checked = c; low = omega arith; many = e; few = omega (arith, values-most c); size = l; is = filled_none; kept = m }

pub marking_runs : {s : List ℕ} {n : ℕ} {marks blocks : List Bool} {v : ℕ} → Marking s n marks blocks v → v < n → Runs s v v
marking_runs {s} {n} {marks} {blocks} {v} g l =
    let h : v < values s = omega (arith, g.many) in runs s v h (all-at _ _ v (checked-values g.checked) h)

pub marking_kept : {s : List ℕ} {n : ℕ} {marks blocks : List Bool} {v : ℕ} → Marking s n marks blocks v → Marked s marks v blocks
marking_kept g = g.kept

pub marking_more : {s : List ℕ} {n : ℕ} {marks blocks blocks' : List Bool} {v at : ℕ} {own parts r : Bool} → Marking s n marks blocks v → v < n → at ≡ v → Marked s marks v blocks' → r ≡ (own and parts) → own ≡ own_clear s v → parts ≡ all_below (part_count s v) (λ i. get_or marks (part_value s v i) false) → Marking s n (set marks at r) blocks' (v + 1)
marking_more {s} {n} {marks} {blocks} {blocks'} {v} {at} {own} {parts} {r} g l e m er eo ep = record {
  checked = g.checked;
  low = omega arith;
  many = g.many;
  few = g.few;
  size = length-set marks at r ∙ g.size;
  is = fill-at r e (omega (arith, g.size, g.few)) g.is value;
  kept = marked_next r e m;
}
  where
    same : parts ≡ all_below (part_count s v) (λ i. clear_at s (part_value s v i))
    same = ep ∙ all_same _ _ (part_count s v) (λ i h. g.is.at (part_value s v i) ((marking_runs g l).lower i h))

    value : r ≡ clear_at s v
    value = er ∙ ap₂ ◌and◌ eo same ∙ sym (clear-is g.checked v)

pub marking_all : {s : List ℕ} {n : ℕ} {marks blocks : List Bool} {v : ℕ} → Marking s n marks blocks v → n ≤ v → Filled false (clear_at s) marks (values s)
marking_all {s} g h = filled-all (values s) g.many h g.low g.is
