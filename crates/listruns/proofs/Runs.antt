-- Runs of the lists, and their blocks, as the loops over them read them; strings that a table marks
use mathlib.Core.Path.{◌≡◌, refl, sym, ◌∙◌, ap}
use mathlib.Core.Bool.{Bool, true, false, not}
use mathlib.Core.List.{List}
use Prim.Native.Nat.{ℕ, ◌+◌, ◌*◌, ◌-◌, ◌/◌, ◌%◌, ◌<◌, ◌≤◌}
use native.Mathlib.Omega.{arith}
use lib.Dec.{ltb}
use lib.ListN.{get_or}
use borrow.Author.Tests.{ltb-false, lt-ltb, le-ltb, leb-true, le-leb, lt-leb}
use Rattle.meaning.specs.Tests.{◌and◌, all_below, greatest}
use Rattle.meaning.specs.Text.{free}
use Rattle.meaning.specs.Case.{strings, lists, list, text}
use Rattle.meaning.specs.Check.{bodies, mosts, in_table, is_string}
use Rattle.laws.specs.Tests.{Filled, Passing, passing-block, passing-out, said, stop, pass, after, all_same}
use Rattle.stringcheck.specs.Mosts.{string-most, list-most}
use Rattle.listruns.specs.Blocks.{Tops, block_start}
use Rattle.listruns.specs.Laws.{top-is}

-- a run of items of so many words lies in the lists
pub record InLists (s : List ℕ) (width first items : ℕ) : Type 0 where
  pub inside : first + width * items ≤ lists s
  pub few : lists s ≤ 1048576

module _ (s : List ℕ) (width first items : ℕ) (b : bodies s ≡ true) (m : mosts s ≡ true) where
  pub run_in : {r : Bool} → not r ≡ false → r ≡ in_table (lists s) width first items → InLists s width first items
  run_in n e = record { inside = leb-true _ (lists s) (said n e); few = list-most s m b }

  pub run_fits : {k w f j : ℕ} → k ≡ lists s → w ≡ k → f ≡ first → j ≡ items → f + width * j ≤ w → InLists s width first items
  run_fits ek ew ef ej h = record { inside = rw (ew, ek, ef, ej) at h; few = list-most s m b }

pub run_past : (s : List ℕ) (width : ℕ) {first items k w f j : ℕ} (others : Bool) → k ≡ lists s → w ≡ k → f ≡ first → j ≡ items → w < f + width * j → false ≡ (in_table (lists s) width first items and others)
run_past s width others ek ew ef ej h = sym (stop others (lt-leb _ _ (rw (ew, ek, ef, ej) at h)))

pub run-whole : {s : List ℕ} {width first items : ℕ} {others : Bool} → InLists s width first items → true ≡ others → true ≡ (in_table (lists s) width first items and others)
run-whole {s} r e = sym (pass (le-leb _ (lists s) r.inside) (sym e))

-- blocks of 1024 words
module _ (s : List ℕ) {k w : ℕ} (ek : k ≡ lists s) (ew : w ≡ k) where
  pub blocks-few : bodies s ≡ true → mosts s ≡ true → w / 1024 ≤ 1024
  blocks-few b m = omega (arith, list-most s m b)

  pub blocks-all : w / 1024 ≡ lists s / 1024
  blocks-all = omega arith

module _ {s : List ℕ} {first items i f j : ℕ} (r : InLists s 1 first items) (ef : f ≡ first) (ej : j ≡ i) (lt : i < items) (w : ltb (items - i) 1024 ≡ false) where
  pub block_in : (f + j) / 1024 < 1024
  block_in = omega (arith, ltb-false (items - i) 1024 w, r.inside, r.few)

  block-fits : i + 1024 ≤ items
  block-fits = omega (arith, ltb-false (items - i) 1024 w)

  module _ (a : (f + j) % 1024 ≡ 0) {test : ℕ → Bool} (p : Passing test items i) where
    block_at : {A : Type 0} {other : A} (g : ℕ → A) {table : List A} → Filled other (λ b. g (1024 * b)) table (lists s / 1024) → get_or table ((f + j) / 1024) other ≡ g (f + j)
    block_at g t = let here : 1024 * ((f + j) / 1024) ≡ f + j = omega arith in t.at _ (omega (arith, ltb-false (items - i) 1024 w, r.inside)) ∙ ap g here

    from_first : (word : ℕ → Bool) → ((x : ℕ) → test x ≡ word (first + x)) → all_below 1024 (λ x. word (f + j + x)) ≡ all_below 1024 (λ x. test (i + x))
    from_first word same = all_same (λ x. word (f + j + x)) (λ x. test (i + x)) 1024 (λ x hx. let q : f + j + x ≡ first + (i + x) = omega arith in rw q (sym (same (i + x))))

    -- by the greatest word of a block
    top_of : {tops : List ℕ} → Tops s tops → (bound : ℕ) → ((x : ℕ) → test x ≡ ltb (list s (first + x)) bound) → ltb (get_or tops ((f + j) / 1024) 0) bound ≡ all_below 1024 (λ x. test (i + x))
    top_of t bound same =
        ap (λ (x : ℕ). ltb x bound) (block_at (λ b. greatest 1024 (λ x. list s (b + x))) t)
        ∙ sym (top-is (λ x. list s (f + j + x)) bound 1023) ∙ from_first (λ n. ltb (list s n) bound) same

module _ {s : List ℕ} {first items i f j : ℕ} {test : ℕ → Bool} where
  module _ {tops : List ℕ} (bound : ℕ) where
    pub words_more : get_or tops ((f + j) / 1024) 0 < bound → f ≡ first → j ≡ i → (f + j) % 1024 ≡ 0 → ltb (items - i) 1024 ≡ false → i < items → Passing test items i → InLists s 1 first items → Tops s tops → ((x : ℕ) → test x ≡ ltb (list s (first + x)) bound) → Passing test items (i + 1024)
    words_more h ef ej a w lt p r t same = passing-block p 1024 (block-fits r ef ej lt w) (sym (top_of r ef ej lt w a p t bound same) ∙ lt-ltb _ _ h)

    pub words-no : bound ≤ get_or tops ((f + j) / 1024) 0 → f ≡ first → j ≡ i → (f + j) % 1024 ≡ 0 → ltb (items - i) 1024 ≡ false → i < items → Passing test items i → InLists s 1 first items → Tops s tops → ((x : ℕ) → test x ≡ ltb (list s (first + x)) bound) → false ≡ all_below items test
    words-no h ef ej a w lt p r t same = passing-out p 1024 (block-fits r ef ej lt w) (sym (top_of r ef ej lt w a p t bound same) ∙ le-ltb _ _ h) refl

-- blocks of 512 items of three words
module _ (s : List ℕ) {k w : ℕ} (ek : k ≡ lists s) (ew : w ≡ k) where
  pub thirds_few : bodies s ≡ true → mosts s ≡ true → 3 * (w / 1536) ≤ 2052
  thirds_few b m = omega (arith, list-most s m b)

  pub thirds_all : 3 * (w / 1536) ≡ 3 * (lists s / 1536)
  thirds_all = rw (ew, ek) refl

module _ {s : List ℕ} {first items i f j : ℕ} (r : InLists s 3 first items) (ef : f ≡ first) (ej : j ≡ i) (lt : i < items) (a : (f + 3 * j) % 1536 < 3) (w : ltb (items - i) 512 ≡ false) where
  pub third_in : 3 * ((f + 3 * j) / 1536) + (f + 3 * j) % 1536 < 2052
  third_in = omega (arith, ltb-false (items - i) 512 w, r.inside, r.few)

  pub third-fits : i + 512 ≤ items
  third-fits = omega (arith, ltb-false (items - i) 512 w)

  pub third_at : {A : Type 0} {other : A} (g : ℕ → A) {table : List A} → Filled other (λ k. g (block_start k)) table (3 * (lists s / 1536)) → get_or table (3 * ((f + 3 * j) / 1536) + (f + 3 * j) % 1536) other ≡ g (f + 3 * j)
  third_at g t =
      let here : block_start (3 * ((f + 3 * j) / 1536) + (f + 3 * j) % 1536) ≡ f + 3 * j = omega arith in
      t.at _ (omega (arith, ltb-false (items - i) 512 w, r.inside)) ∙ ap g here

-- a string that a table marks
module _ (s : List ℕ) (n : ℕ) {k : ℕ} (ek : k ≡ strings s) where
  pub no-string : (others : Bool) → k ≤ n → false ≡ (is_string s n and others)
  no-string others l = sym (stop others (le-ltb n (strings s) (rw ek at l)))

  module _ {at : ℕ} (lt : n < k) (q : at ≡ n) where
    pub string_in : mosts s ≡ true → at < 16384
    string_in m = omega (arith, string-most s m)

    pub string-marked : {table : List Bool} (b : ℕ) → Filled false (λ n. free b (text s n)) table (strings s) → get_or table at false ≡ (is_string s n and free b (text s n))
    string-marked {table} b f =
        let l : n < strings s = omega arith in
        ap (λ (x : ℕ). get_or table x false) q ∙ f.at n l ∙ sym (after (lt-ltb n (strings s) l))
