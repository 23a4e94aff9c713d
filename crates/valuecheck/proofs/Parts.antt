-- The run of members that an array or object holds, and its blocks, as the loops over them read them
use mathlib.Core.Path.{◌≡◌, refl, sym, ◌∙◌, ap}
use mathlib.Core.Bool.{Bool, true, false, not}
use mathlib.Core.List.{List}
use Prim.Native.Nat.{ℕ, ◌+◌, ◌*◌, ◌-◌, ◌/◌, ◌%◌, ◌<◌, ◌≤◌, max}
use native.Mathlib.Omega.{arith}
use lib.Dec.{ltb}
use lib.ListN.{get_or, set}
use borrow.Author.Tests.{ltb-false}
use Rattle.meaning.specs.Tests.{all_below, greatest}
use Rattle.meaning.specs.Case.{members, member_word, value_word}
use Rattle.meaning.specs.Check.{bodies, mosts, depth, part_count, part_value}
use Rattle.laws.specs.Tests.{Filled, Passing, passing-none, passing-more, passing-no, passing-block, passing-out, Growing, growing_none, growing_more, growing_all, said, denied, greatest-same, all_same}
use Rattle.laws.specs.Values.{Runs, leaf, holder}
use Rattle.stringcheck.specs.Mosts.{value-most, member-most}
use Rattle.valuecheck.specs.Blocks.{Lower, Depths, Marked}
use Rattle.valuecheck.specs.Laws.{greatest-add, all_true, depths_more, marked_more}

-- a block's place and number
aligned : (at : ℕ) → at % 512 ≡ 0 → 512 * (at / 512) ≡ at
aligned at e = omega arith

pub record Holds (s : List ℕ) (v first items : ℕ) : Type 0 where
  pub count : items ≡ part_count s v
  pub part : (i : ℕ) → member_word s (first + i) 1 ≡ part_value s v i
  pub low : (i : ℕ) → i < items → member_word s (first + i) 1 < v
  pub inside : first + items ≤ members s
  pub few : v < 16384
  pub blocks : members s ≤ 524288

pub holds : {s : List ℕ} {v first items kind a b : ℕ} → first ≡ a → a ≡ value_word s v 1 → items ≡ b → b ≡ value_word s v 2 → 6 ≤ kind → kind ≡ value_word s v 0 → Runs s v v → mosts s ≡ true → bodies s ≡ true → Holds s v first items
holds {s} {v} {first} {items} ea ef eb ei l ek r m h =
    record {
      count = count;
      part = part;
      low = λ i hi. omega (arith, part i, r.lower i (omega (arith, count)));
      inside = omega (arith, r.inside (omega arith));
      few = omega (arith, r.there, value-most s m);
      blocks = member-most s m h;
    }
  where
    count : items ≡ part_count s v
    count = eb ∙ ei ∙ sym (holder s v (omega arith) r.kinds)

    part : (i : ℕ) → member_word s (first + i) 1 ≡ part_value s v i
    part i = unfold part_value in rw (ea, ef) refl

pub no-parts : (s : List ℕ) (v : ℕ) {kind : ℕ} → kind ≡ value_word s v 0 → kind < 6 → part_count s v ≡ 0
no-parts s v e l = leaf s v (omega arith)

at_block : {s : List ℕ} {v first items : ℕ} → Holds s v first items → (i j : ℕ) → part_value s v (i + j) ≡ member_word s (first + i + j) 1
at_block {first = first} h i j = let q : first + i + j ≡ first + (i + j) = omega arith in rw q (sym (h.part (i + j)))

module _ {s : List ℕ} {v first items : ℕ} (h : Holds s v first items) (i : ℕ) (l : i < items) where
  -- item i, as it was read
  module _ {held at : ℕ} (e : held ≡ member_word s (first + i) 1) (q : at ≡ held) where
    pub part_in : at < 16384
    part_in = omega (arith, h.few, h.low i l)

    part-is : {A : Type 0} (f : ℕ → A) → f at ≡ f (part_value s v i)
    part-is f = ap f (q ∙ e ∙ h.part i)

    part-depth : {table : List ℕ} → Filled 0 (depth s) table v → get_or table at 0 ≡ depth s (part_value s v i)
    part-depth {table} f = part-is (λ x. get_or table x 0) ∙ f.at _ (omega (arith, h.part i, h.low i l))

  -- the block that starts at item i
  module _ (w : ltb (items - i) 512 ≡ false) where
    block-fits : i + 512 ≤ items
    block-fits = omega (arith, ltb-false (items - i) 512 w)

    pub block_in : (first + i) / 512 < 1024
    block_in = omega (arith, block-fits, h.inside, h.blocks)

    pub block-low : Lower s v (first + i) 512
    block-low = record { lower = λ j hj. let q : first + i + j ≡ first + (i + j) = omega arith in rw q (h.low (i + j) (omega (arith, block-fits))) }

-- the greatest depth of the first i items, and what is kept of blocks
pub record Deep (s : List ℕ) (v first items : ℕ) (blocks : List ℕ) (best i : ℕ) : Type 0 where
  pub run : Holds s v first items
  pub deep : Growing (λ j. depth s (part_value s v j)) items i best
  pub kept : Depths s blocks

pub deep_none : {s blocks : List ℕ} {v first items : ℕ} → Holds s v first items → Depths s blocks → Deep s v first items blocks 0 0
deep_none h d = record { run = h; deep = growing_none; kept = d }

module _ {s blocks : List ℕ} {v first items best i : ℕ} (d : Deep s v first items blocks best i) where
  pub deep-all : items ≤ i → best ≡ greatest (part_count s v) (λ j. depth s (part_value s v j))
  deep-all h = growing_all d.deep h d.run.count

  module _ (l : i < items) {r : ℕ} where
    pub deep_one : {table : List ℕ} {at held : ℕ} → r ≡ max best (get_or table at 0) → at ≡ held → held ≡ member_word s (first + i) 1 → Filled 0 (depth s) table v → Deep s v first items blocks r (i + 1)
    deep_one m q e f = record { run = d.run; deep = growing_more d.deep l m (part-depth d.run i l e q f); kept = d.kept }

    module _ (w : ltb (items - i) 512 ≡ false) where
      by-block : {x : ℕ} → r ≡ max best x → x ≡ greatest 512 (λ j. depth s (member_word s (first + i + j) 1)) → Growing (λ j. depth s (part_value s v j)) items (i + 512) r
      by-block m e =
          let same = greatest-same (λ j. depth s (part_value s v (i + j))) (λ j. depth s (member_word s (first + i + j) 1)) 512 (λ j hj. ap (depth s) (at_block d.run i j)) in
          record { low = block-fits d.run i l w; is = m ∙ rw (d.deep.is, e, ← same) (sym (greatest-add (λ j. depth s (part_value s v j)) i 512)) }

      pub deep-known : r ≡ max best (get_or blocks ((first + i) / 512) 0) → (get_or blocks ((first + i) / 512) 0 ≡ 0 → ⊥) → (first + i) % 512 ≡ 0 → Deep s v first items blocks r (i + 512)
      deep-known m k a = record { run = d.run; deep = by-block m (d.kept.known _ k ∙ rw (aligned _ a) refl); kept = d.kept }

      pub deep-found : {x : ℕ} → r ≡ max best x → x ≡ greatest 512 (λ j. depth s (member_word s (first + i + j) 1)) → (first + i) % 512 ≡ 0 → Deep s v first items (set blocks ((first + i) / 512) x) r (i + 512)
      deep-found m e a = record { run = d.run; deep = by-block m e; kept = depths_more _ d.kept (aligned _ a) e }

-- the first i items are marked, as a test says, and what is kept of blocks
pub record Marks (s : List ℕ) (v first items : ℕ) (test : ℕ → Bool) (marks blocks : List Bool) (i : ℕ) : Type 0 where
  pub run : Holds s v first items
  pub says : (j : ℕ) → test j ≡ get_or marks (part_value s v j) false
  pub passed : Passing test items i
  pub kept : Marked s marks v blocks

pub marks-none : {s : List ℕ} {marks blocks : List Bool} {v first items : ℕ} → Holds s v first items → Marked s marks v blocks → Marks s v first items (λ j. get_or marks (part_value s v j) false) marks blocks 0
marks-none h m = record { run = h; says = λ j. refl; passed = passing-none; kept = m }

module _ {s : List ℕ} {test : ℕ → Bool} {marks blocks : List Bool} {v first items i : ℕ} (m : Marks s v first items test marks blocks i) (l : i < items) where
  module _ {at held : ℕ} (q : at ≡ held) (e : held ≡ member_word s (first + i) 1) where
    here : get_or marks at false ≡ test i
    here = part-is m.run i l e q (λ x. get_or marks x false) ∙ sym (m.says i)

    pub marks-one : not (get_or marks at false) ≡ false → Marks s v first items test marks blocks (i + 1)
    marks-one n = record { run = m.run; says = m.says; passed = passing-more m.passed l n here; kept = m.kept }

    pub marks-no : {c : ℕ} → not (get_or marks at false) ≡ true → items ≡ c → false ≡ all_below c test
    marks-no n q = passing-no m.passed l n here q

  module _ (w : ltb (items - i) 512 ≡ false) where
    marks_block : all_below 512 (λ j. test (i + j)) ≡ all_below 512 (λ j. get_or marks (member_word s (first + i + j) 1) false)
    marks_block = all_same (λ j. test (i + j)) (λ j. get_or marks (member_word s (first + i + j) 1) false) 512 (λ j hj. m.says (i + j) ∙ ap (λ (x : ℕ). get_or marks x false) (at_block m.run i j))

    by-marks : all_below 512 (λ j. get_or marks (member_word s (first + i + j) 1) false) ≡ true → Passing test items (i + 512)
    by-marks e = passing-block m.passed 512 (block-fits m.run i l w) (marks_block ∙ e)

    pub marks-known : (first + i) % 512 ≡ 0 → get_or blocks ((first + i) / 512) false ≡ true → Marks s v first items test marks blocks (i + 512)
    marks-known a e = record { run = m.run; says = m.says; passed = by-marks (all_true _ 512 (λ j hj. let z = (m.kept.held _ e j hj).1 in rw (aligned _ a) at z)); kept = m.kept }

    module _ {r : Bool} (e : r ≡ all_below 512 (λ j. get_or marks (member_word s (first + i + j) 1) false)) where
      pub marks-found : not r ≡ false → (first + i) % 512 ≡ 0 → Marks s v first items test marks (set blocks ((first + i) / 512) true) (i + 512)
      marks-found n a = record { run = m.run; says = m.says; passed = by-marks (said n e); kept = marked_more _ m.kept (aligned _ a) (block-low m.run i l w) (said n e) }

      pub marks-not : {c : ℕ} → not r ≡ true → items ≡ c → false ≡ all_below c test
      marks-not n q = passing-out m.passed 512 (block-fits m.run i l w) (marks_block ∙ denied n e) q

-- what a block of members holds, which lies below v, as it was read
module _ {s : List ℕ} {v at held h : ℕ} (i : ℕ) (l : Lower s v at 512) (hi : i < 512) (e : held ≡ member_word s (at + i) 1) (q : h ≡ held) where
  pub held_in : v ≤ 16384 → h < 16384
  held_in m = omega (arith, l.lower i hi)

  pub held-depth : {table : List ℕ} → Filled 0 (depth s) table v → get_or table h 0 ≡ depth s (member_word s (at + i) 1)
  held-depth f = rw (q, e) (f.at _ (l.lower i hi))

-- the block that starts at item i of a run is one of the table's
pub in_tops : (s : List ℕ) (items : ℕ) {first i f j : ℕ} → f ≡ first → j ≡ i → bodies s ≡ true → mosts s ≡ true → first + items ≤ members s → ltb (items - i) 512 ≡ false → i < items → (f + j) / 512 < 1024
in_tops s items {i = i} ef ej b m l w h = omega (arith, ltb-false (items - i) 512 w, member-most s m b)
