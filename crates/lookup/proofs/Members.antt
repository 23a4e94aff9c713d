-- A name among an object's members, which rise by name: the half that can hold it
use mathlib.Core.Path.{◌≡◌, refl, sym, ◌∙◌, ap}
use mathlib.Core.Bool.{Bool, true, false}
use mathlib.Core.List.{List, [], map}
use mathlib.Core.Option.{some}
use Prim.Native.Nat.{ℕ, zero, suc, ◌+◌, ◌*◌, ◌-◌, ◌/◌, ◌<◌, ◌≤◌}
use native.Mathlib.Omega.{arith}
use lib.Dec.{eqb, ltb, lit<}
use lib.ListN.{length, get_or}
use borrow.Author.Tests.{ltb-true, ltb-false}
use Rattle.meaning.specs.declared.ValNo.{ValNo}
use Rattle.meaning.specs.Tests.{pick}
use Rattle.meaning.specs.Case.{Part, words, offset, values, value_word, member_word, value_at, value_from, part_at, places, members as member_count}
use Rattle.meaning.specs.Check.{Checked, value_rule, object_item, object_rule}
use Rattle.meaning.specs.Look.{named, members}
use Rattle.laws.specs.Tests.{both, all-at}
use Rattle.laws.specs.Bodies.{body-word, body-beyond, body-ends, wholes}
use Rattle.laws.specs.Values.{runs}
use Rattle.laws.specs.Checked.{checked-bodies, checked-values}
use Rattle.std.specs.Prelude.{Option as Maybe, Some, None}
use Rattle.lookup.specs.Paths.{found_at}
use Rattle.equality.specs.Places.{value_as}
use Rattle.lookup.proofs.Rising.{numbers-rise}
use Rattle.lookup.proofs.Halving.{under, alike, Within, within_all, nothing-under, lower-part, upper-part, middle-under}

-- ---- what is no object

pub no-members : (part : ℕ → Part) (k a b : ℕ) → (k ≡ 7 → ⊥) → members (value_from part k a b) ≡ []
unfolding members value_from pick
no-members part zero a b h = refl
no-members part (suc zero) a b h = refl
no-members part (suc (suc zero)) a b h = refl
no-members part (suc (suc (suc zero))) a b h = refl
no-members part (suc (suc (suc (suc zero)))) a b h = refl
no-members part (suc (suc (suc (suc (suc zero))))) a b h = refl
no-members part (suc (suc (suc (suc (suc (suc zero)))))) a b h = refl
no-members part (suc (suc (suc (suc (suc (suc (suc zero))))))) a b h = absurd (h refl)
no-members part (suc (suc (suc (suc (suc (suc (suc (suc k)))))))) a b h = refl

pub no-object : (s : List ℕ) (v n k : ℕ) → k ≡ value_word s v 0 → (k ≡ 7 → ⊥) → found_at None ≡ named n (members (value_at s v))
unfolding found_at value_at named
no-object s v n k ek ne = sym (ap (named n) (no-members (part_at s) (value_word s v 0) (value_word s v 1) (value_word s v 2) (λ e. ne (ek ∙ e))))

-- ---- what is one, in a checked case: its members' words lie in the file, and names rise

abbrev pub name_at : List ℕ → ℕ → ℕ → ℕ
name_at s table m = get_or (words s) (table + 2 * m) 0

abbrev pub held_at : List ℕ → ℕ → ℕ → ℕ
held_at s table m = get_or (words s) (table + 2 * m + 1) 0

pub record Sorted (s : List ℕ) (table first count : ℕ) : Type 0 where
  pub ends : 4 * (table + 2 * (first + count)) ≤ length s
  pub name : (m : ℕ) → m < first + count → name_at s table m ≡ member_word s m 0
  pub held : (m : ℕ) → m < first + count → held_at s table m ≡ member_word s m 1
  pub rise : (i j : ℕ) → first ≤ i → i < j → j < first + count → member_word s i 0 < member_word s j 0

module _ {s : List ℕ} (c : Checked s) (v : ℕ) (e : value_word s v 0 ≡ 7) where
  there : v < values s
  unfolding value_word pick
  there = go (ltb v (values s)) refl
    where
      go : (b : Bool) → ltb v (values s) ≡ b → v < values s
      go true q = ltb-true _ _ q
      go false q =
          let l = ltb-false v (values s) q in
          let z : value_word s v 0 ≡ 0 = body-beyond s (checked-bodies c) 1 (4 * v + 0) (lit< tt) (omega (arith, wholes s (checked-bodies c) 1 (lit< tt))) in
          absurd (omega arith)

  rule : value_rule s v ≡ true
  rule = all-at (value_rule s) (values s) v (checked-values c) there

  object-rule : object_rule s v ≡ true
  unfolding value_rule pick
  object-rule = rw e at rule

  rise-from : (i j : ℕ) → i < j → j < value_word s v 2 → member_word s (value_word s v 1 + i) 0 < member_word s (value_word s v 1 + j) 0
  unfolding object_item
  rise-from =
      numbers-rise (λ i. member_word s (value_word s v 1 + i) 0) (value_word s v 2) (λ i hi. (both _ _ (all-at (object_item s v (value_word s v 1)) (value_word s v 2) i (both _ _ (both _ _ object-rule).1).1 hi)).1)

  inside : value_word s v 1 + value_word s v 2 ≤ member_count s
  inside = (runs s v there rule).inside (omega arith)

  word-is : (m j : ℕ) → m < value_word s v 1 + value_word s v 2 → j < 2 → get_or (words s) (offset s 2 / 4 + (2 * m + j)) 0 ≡ member_word s m j
  unfolding member_word
  word-is m j h l = sym (body-word s (checked-bodies c) 2 (2 * m + j) (lit< tt) (omega (arith, inside)))

  sorted-run : Sorted s (offset s 2 / 4) (value_word s v 1) (value_word s v 2)
  sorted-run =
      record {
        ends = omega (arith, inside, body-ends s (checked-bodies c) 2 (lit< tt));
        name = λ m h.
            let z : offset s 2 / 4 + 2 * m ≡ offset s 2 / 4 + (2 * m + 0) = omega arith in
            rw z (word-is m 0 h (lit< tt));
        held = λ m h.
            let z : offset s 2 / 4 + 2 * m + 1 ≡ offset s 2 / 4 + (2 * m + 1) = omega arith in
            rw z (word-is m 1 h (lit< tt));
        rise = λ i j low h l.
            let x : value_word s v 1 + (i - value_word s v 1) ≡ i = omega arith in
            let y : value_word s v 1 + (j - value_word s v 1) ≡ j = omega arith in
            rw (x, y) at (rise-from (i - value_word s v 1) (j - value_word s v 1) (omega arith) (omega arith));
      }

-- ---- the name as the number of a run

abbrev pub part : List ℕ → ℕ → ℕ → List Part
part s at left = map (part_at s) (places at 1 left)

module _ {s : List ℕ} {table first total : ℕ} (n : ℕ) (run : Sorted s table first total) where
  named-under : (count at : ℕ) → at + count ≤ first + total → named n (part s at count) ≡ under (name_at s table) (held_at s table) n at count
  unfolding named places part_at under
  named-under zero at h = refl
  named-under (suc count) at h =
      alike (ap (eqb n) (sym (run.name at (omega arith)))) (sym (run.held at (omega arith))) (named-under count (at + 1) (omega arith))

-- ---- the name, if it is there, is among the members left

pub record Among (s : List ℕ) (n table first count at left : ℕ) : Type 0 where
  pub run : Sorted s table first count
  pub part : Within (name_at s table) (held_at s table) n first count at left

-- object v by the words that the code has of it: its kind, where its run starts, how many members it has
module _ (s : List ℕ) (v kind x y first count : ℕ) (ef : first ≡ x) (ex : x ≡ value_word s v 1) (ec : count ≡ y) (ey : y ≡ value_word s v 2) (ek : kind ≡ value_word s v 0) (e : kind ≡ 7) where
  pub members-are : members (value_at s v) ≡ part s first count
  unfolding members value_from pick
  members-are = ap members (value_as s v 7 kind first count ek (ef ∙ ex) (ec ∙ ey) e)

  pub among-all : (n o p : ℕ) → p ≡ o → o ≡ offset s 2 → Checked s → Among s n (p / 4) first count first count
  among-all n o p ep eo c =
      let run : Sorted s (p / 4) first count = rw (ep, eo, ef, ex, ec, ey) (sorted-run c v (sym ek ∙ e)) in
      record {
        run = run;
        part = within_all (name_at s (p / 4)) (held_at s (p / 4)) n first count (λ i j low h l. omega (arith, run.name i (omega arith), run.name j l, run.rise i j low h l));
      }

  module _ {n table at left : ℕ} (g : Among s n table first count at left) where
    pub members-under : named n (members (value_at s v)) ≡ under (name_at s table) (held_at s table) n first count
    members-under = ap (named n) members-are ∙ named-under n g.run count first (omega arith)

    pub among_none : left ≤ 0 → found_at None ≡ named n (members (value_at s v))
    unfolding found_at
    among_none h = sym (members-under ∙ nothing-under g.part h)

-- the middle of what is left, and its name: something is left
module _ {s : List ℕ} {n table first count at left : ℕ} (g : Among s n table first count at left) (k : ℕ) (more : k < left) (here : ℕ) (eh : here ≡ get_or (words s) (table + 2 * (at + left / 2)) 0) where
  pub lower-half : n < here → Among s n table first count at (left / 2)
  lower-half less = record { run = g.run; part = lower-part g.part k more (omega (arith, eh)) }

  pub upper-half : here ≤ n → (n ≡ here → ⊥) → Among s n table first count (at + left / 2 + 1) (left - left / 2 - 1)
  upper-half most ne = record { run = g.run; part = upper-part g.part k more (omega (arith, eh)) (λ e. ne (e ∙ sym eh)) }

  pub middle-found : (v kind x y : ℕ) → first ≡ x → x ≡ value_word s v 1 → count ≡ y → y ≡ value_word s v 2 → kind ≡ value_word s v 0 → kind ≡ 7 → (u : ValNo) → n ≡ here → u.0 ≡ get_or (words s) (table + 2 * (at + left / 2) + 1) 0 → found_at (Some u) ≡ named n (members (value_at s v))
  unfolding found_at
  middle-found v kind x y ef ex ec ey ek e7 u e eu =
      ap some eu ∙ sym (members-under s v kind x y first count ef ex ec ey ek e7 g ∙ middle-under g.part k more (e ∙ eh))
