-- Stretches that are known to pass: an entry read and kept, a table made from the last word to the first, a run read by it
use mathlib.Core.Path.{◌≡◌, refl, sym, ◌∙◌, ap}
use mathlib.Core.Bool.{Bool, true, false, not}
use mathlib.Core.List.{List}
use Prim.Native.Nat.{ℕ, zero, suc, ◌+◌, ◌*◌, ◌-◌, ◌/◌, ◌%◌, ◌<◌, ◌≤◌, min}
use native.Mathlib.Omega.{arith}
use lib.Dec.{eqb, ltb}
use lib.ListN.{length, get_or, set, replicate, length-set, length-replicate}
use lib.Seq.{get_or-set_same, get_or-set_other}
use borrow.Author.Tests.{eqb-true, eqb-false, eq-eqb, ne_eqb, lt-ltb, le-ltb}
use Rattle.meaning.specs.Tests.{◌and◌, choose, all_below}
use Rattle.laws.specs.Tests.{stop, skip, pass, yes, no, shorter, all-add, all_same, record_no, record_yes, Passing, passing-none, passing-all}
use Rattle.marking.specs.Runs.{word, word_of, item, item_of, ItemPlace, known, kept, Known}

-- ---- an entry

module _ (table : List ℕ) (at : ℕ) where
  pub known-between : (at % 128 ≡ 0 → ⊥) → 0 ≡ known table at
  unfolding known
  known-between h = sym (no _ (stop _ (ne_eqb (at % 128) 0 h)) refl)

  pub known-beyond : 8192 ≤ at / 128 → 0 ≡ known table at
  unfolding known
  known-beyond h = sym (no _ (skip _ (le-ltb (at / 128) 8192 h)) refl)

  pub known_at : at % 128 ≡ 0 → at / 128 < 8192 → get_or table (at / 128) 0 ≡ known table at
  unfolding known
  known_at e h = sym (yes _ (pass (eq-eqb (at % 128) 0 e) (lt-ltb (at / 128) 8192 h)))

module _ (table : List ℕ) (i items : ℕ) where
  pub kept_at : i % 128 ≡ 0 → set table (i / 128) items ≡ kept table i items
  unfolding kept
  kept_at e = sym (yes _ (eq-eqb (i % 128) 0 e))

  pub kept-between : (i % 128 ≡ 0 → ⊥) → table ≡ kept table i items
  unfolding kept
  kept-between h = sym (no _ (ne_eqb (i % 128) 0 h) refl)

-- ---- a table

zeros : (n b : ℕ) → ◌≡◌ {A = ℕ} (get_or (replicate n 0) b 0) 0
zeros zero b = refl
zeros (suc n) zero = refl
zeros (suc n) (suc b) = zeros n b

known-none : {test : ℕ → ℕ → Bool} {n : ℕ} → n ≡ 8192 → Known test (replicate n 0)
unfolding all_below
known-none {test} {n} e = record { long = length-replicate n 0 ∙ e; at = λ b. rw (zeros n b) refl }

-- what is known of a word is true of it
known-pass : (test : ℕ → ℕ → Bool) {table : List ℕ} (at : ℕ) → Known test table → all_below (known table at) (test at) ≡ true
unfolding known choose all_below ◌and◌
known-pass test {table} at k =
    go (eqb (at % 128) 0) (ltb (at / 128) 8192) refl
  where
    go : (b d : Bool) → eqb (at % 128) 0 ≡ b → all_below (choose (b and d) (get_or table (at / 128) 0) 0) (test at) ≡ true
    go false d e = refl
    go true false e = refl
    go true true e =
        let q : 128 * (at / 128) ≡ at = omega (arith, eqb-true (at % 128) 0 e) in
        rw q at (k.at (at / 128))

kept-known : (test : ℕ → ℕ → Bool) {table : List ℕ} (i items : ℕ) → i < 1048576 → all_below items (test i) ≡ true → Known test table → Known test (kept table i items)
unfolding kept choose
kept-known test {table} i items h a k =
    go (eqb (i % 128) 0) refl
  where
    there : i % 128 ≡ 0 → (b : ℕ) (d : Bool) → eqb b (i / 128) ≡ d → all_below (get_or (set table (i / 128) items) b 0) (test (128 * b)) ≡ true
    there z b true e =
        let q : b ≡ i / 128 = eqb-true b (i / 128) e in
        let p : 128 * (i / 128) ≡ i = omega arith in
        let f : i / 128 < length table = omega (arith, k.long) in
        rw (q, get_or-set_same table (i / 128) items 0 f, p) a
    there z b false e = rw (get_or-set_other table (i / 128) b items 0 (eqb-false b (i / 128) e)) (k.at b)

    go : (d : Bool) → eqb (i % 128) 0 ≡ d → Known test (choose d (set table (i / 128) items) table)
    go false e = k
    go true e = record { long = length-set table (i / 128) items ∙ k.long; at = λ b. there (eqb-true (i % 128) 0 e) b (eqb b (i / 128)) refl }

-- ---- a table made from the last word to the first

pub longer-yes : {passes : Bool} (items : ℕ) → passes ≡ true → items + 1 ≡ choose passes (items + 1) 0
longer-yes items e = sym (yes 0 e)

pub longer-no : {passes : Bool} (items : ℕ) → passes ≡ false → 0 ≡ choose passes (items + 1) 0
longer-no items e = sym (no (items + 1) e refl)

longer-run : (here next : ℕ → Bool) (items : ℕ) (r : Bool) → r ≡ here 0 → ((j : ℕ) → here (1 + j) ≡ next j) → all_below items next ≡ true → all_below (choose r (items + 1) 0) here ≡ true
unfolding choose all_below ◌and◌
longer-run here next items false e same a = refl
longer-run here next items true e same a =
    let q : items + 1 ≡ 1 + items = omega arith in
    let h : all_below 1 here ≡ true = sym e in
    let t : all_below items (λ j. here (1 + j)) ≡ true = all_same (λ j. here (1 + j)) next items (λ j l. same j) ∙ a in
    rw q (all-add here 1 items ∙ pass h t)

choose-low : (r : Bool) (items most : ℕ) → items + 1 ≤ most → choose r (items + 1) 0 ≤ most
unfolding choose
choose-low true items most h = h
choose-low false items most h = omega arith

-- so many items from word i on pass
pub record Stretch (test : ℕ → ℕ → Bool) (items i : ℕ) : Type 0 where
  pub low : items + i ≤ 1048578
  pub is : all_below items (test i) ≡ true

stretch_none : {test : ℕ → ℕ → Bool} (i : ℕ) → i ≤ 1048578 → Stretch test 0 i
unfolding all_below
stretch_none i h = record { low = omega arith; is = refl }

-- one item more: what follows it, step words on, is known
stretch_more : (test : ℕ → ℕ → Bool) (step items at : ℕ) (r : Bool) → 1 ≤ step → r ≡ test at 0 → ((j : ℕ) → test at (1 + j) ≡ test (at + step) j) → Stretch test items (at + step) → Stretch test (choose r (items + 1) 0) at
stretch_more test step items at r h e same s = record {
  low =
      let l : items + 1 ≤ 1048578 - at = omega (arith, s.low) in
      omega (arith, choose-low r items (1048578 - at) l, s.low);
  is = longer-run (test at) (test (at + step)) items r e same s.is;
}

pub record WordsKnown (marks : List ℕ) (names : Bool) (table : List ℕ) (items i : ℕ) : Type 0 where
  pub low : i ≤ 1048576
  pub known : Known (word_of marks names) table
  pub here : Stretch (word_of marks names) items i

pub record ItemsKnown (f marks : List ℕ) (argument : Bool) (table : List ℕ) (one two three i : ℕ) : Type 0 where
  pub low : i ≤ 1048576
  pub known : Known (item_of f marks argument) table
  pub here : Stretch (item_of f marks argument) one i
  pub next : Stretch (item_of f marks argument) two (i + 1)
  pub last : Stretch (item_of f marks argument) three (i + 2)

pub words-none : {marks : List ℕ} {names : Bool} {n i : ℕ} → n ≡ 8192 → i ≡ min (length marks) 1048576 → WordsKnown marks names (replicate n 0) 0 i
words-none {i = i} e h = record { low = omega arith; known = known-none e; here = stretch_none i (omega arith) }

pub items-none : {f marks : List ℕ} {argument : Bool} {n i : ℕ} → n ≡ 8192 → i ≡ min (length marks) 1048576 → ItemsKnown f marks argument (replicate n 0) 0 0 0 i
items-none {i = i} e h = record {
  low = omega arith;
  known = known-none e;
  here = stretch_none i (omega arith);
  next = stretch_none (i + 1) (omega arith);
  last = stretch_none (i + 2) (omega arith);
}

module _ {table table' : List ℕ} {new i : ℕ} {r : Bool} where
  pub words_more : {marks : List ℕ} {names : Bool} {items : ℕ} → WordsKnown marks names table items i → 0 < i → r ≡ word marks names (i - 1) → new ≡ choose r (items + 1) 0 → table' ≡ kept table (i - 1) new → WordsKnown marks names table' new (i - 1)
  unfolding word_of
  words_more {marks} {names} {items} w h e n t =
      let q : i - 1 + 1 ≡ i = omega arith in
      let z : i - 1 + 0 ≡ i - 1 = omega arith in
      let s : Stretch (word_of marks names) new (i - 1) =
      rw n (stretch_more (word_of marks names) 1 items (i - 1) r (omega arith) (rw z e)
      (λ j. let p : i - 1 + (1 + j) ≡ i - 1 + 1 + j = omega arith in rw p refl) (rw q w.here)) in
      record { low = omega (arith, w.low); known = rw t (kept-known (word_of marks names) (i - 1) new (omega (arith, w.low)) s.is w.known); here = s }

  pub items_more : {f marks : List ℕ} {argument : Bool} {one two three : ℕ} → ItemsKnown f marks argument table one two three i → 0 < i → r ≡ item f marks argument (i - 1) → new ≡ choose r (three + 1) 0 → table' ≡ kept table (i - 1) new → ItemsKnown f marks argument table' new one two (i - 1)
  unfolding item_of
  items_more {f} {marks} {argument} {one} {two} {three} w h e n t =
      let z : i - 1 + 3 * 0 ≡ i - 1 = omega arith in
      let q1 : i - 1 + 1 ≡ i = omega arith in
      let q2 : i - 1 + 2 ≡ i + 1 = omega arith in
      let q3 : i - 1 + 3 ≡ i + 2 = omega arith in
      let s : Stretch (item_of f marks argument) new (i - 1) =
      rw n (stretch_more (item_of f marks argument) 3 three (i - 1) r (omega arith) (rw z e)
      (λ j. let p : i - 1 + 3 * (1 + j) ≡ i - 1 + 3 + 3 * j = omega arith in rw p refl) (rw q3 w.last)) in
      record {
        low = omega (arith, w.low);
        known = rw t (kept-known (item_of f marks argument) (i - 1) new (omega (arith, w.low)) s.is w.known);
        here = s;
        next = rw q1 w.here;
        last = rw q2 w.next;
      }

-- ---- a run read by a table

pass-ahead : (run ahead : ℕ → Bool) (i k : ℕ) → ((j : ℕ) → ahead j ≡ run (i + j)) → all_below i run ≡ true → all_below k ahead ≡ true → all_below (i + k) run ≡ true
pass-ahead run ahead i k same a b = all-add run i k ∙ pass a (sym (all_same ahead (λ j. run (i + j)) k (λ j l. same j)) ∙ b)

less : (test : ℕ → Bool) (n m : ℕ) → n ≤ m → all_below m test ≡ true → true ≡ all_below n test
less test n m h a =
    go (all_below n test) refl
  where
    go : (b : Bool) → all_below n test ≡ b → true ≡ b
    go true e = refl
    go false e = cc (shorter test n m h e)

-- item i of a run stands at a word; the k items from it on are known to pass
module _ (test : ℕ → ℕ → Bool) (first n i at k : ℕ) (p : Passing (test first) n i) (same : (j : ℕ) → test at j ≡ test first (i + j)) where
  run-ahead : {table : List ℕ} → Known test table → k ≡ known table at → all_below (i + k) (test first) ≡ true
  run-ahead t e = pass-ahead (test first) (test at) i k same p.is (rw e (known-pass test at t))

  run-all : {table : List ℕ} → Known test table → k ≡ known table at → n - i ≤ k → true ≡ all_below n (test first)
  run-all t e h = less (test first) n (i + k) (omega (arith, p.low)) (run-ahead t e)

  run-there : {r : Bool} (w : ℕ) → w ≡ k → r ≡ test at w → r ≡ test first (i + k)
  run-there w q e = e ∙ same w ∙ ap (λ (j : ℕ). test first (i + j)) q

  run-no : (r : Bool) → r ≡ test first (i + k) → k < n - i → not r ≡ true → false ≡ all_below n (test first)
  run-no r e h q = record_no (test first) n (i + k) r q e (omega arith)

  run_on : {table : List ℕ} (r : Bool) → Known test table → k ≡ known table at → r ≡ test first (i + k) → k < n - i → not r ≡ false → Passing (test first) n (i + (k + 1))
  run_on r t d e h q =
      let z : i + k + 1 ≡ i + (k + 1) = omega arith in
      record { low = omega arith; is = rw z at (record_yes (test first) (i + k) r q e (run-ahead t d)) }

module _ {n i a j : ℕ} (marks : List ℕ) (names : Bool) (first : ℕ) (p : Passing (word_of marks names first) n i) (ea : a ≡ first) (ej : j ≡ i) where
  word_same : (m : ℕ) → word_of marks names (a + j) m ≡ word_of marks names first (i + m)
  unfolding word_of
  word_same m = let q : a + j + m ≡ first + (i + m) = omega arith in rw q refl

  pub words-all : {table : List ℕ} {k : ℕ} → Known (word_of marks names) table → k ≡ known table (a + j) → n - i ≤ k → true ≡ all_below n (word_of marks names first)
  words-all {k = k} = run-all (word_of marks names) first n i (a + j) k p word_same

  pub words-no : {k w : ℕ} {r : Bool} → k < n - i → w ≡ k → r ≡ word marks names (a + j + w) → not r ≡ true → false ≡ all_below n (word_of marks names first)
  unfolding word_of
  words-no {k} {w} {r} h q e = run-no (word_of marks names) first n i (a + j) k p word_same r (run-there (word_of marks names) first n i (a + j) k p word_same w q e) h

  pub words-on : {table : List ℕ} {k w : ℕ} {r : Bool} → Known (word_of marks names) table → k ≡ known table (a + j) → k < n - i → w ≡ k → r ≡ word marks names (a + j + w) → not r ≡ false → Passing (word_of marks names first) n (i + (k + 1))
  unfolding word_of
  words-on {k = k} {w} {r} t d h q e = run_on (word_of marks names) first n i (a + j) k p word_same r t d (run-there (word_of marks names) first n i (a + j) k p word_same w q e) h

-- item i is next, and a table tells of the items
pub record ItemsTo (f marks : List ℕ) (argument : Bool) (table : List ℕ) (first n i : ℕ) : Type 0 where
  pub passing : Passing (item_of f marks argument first) n i
  pub known : Known (item_of f marks argument) table

pub items-to-none : {f marks table : List ℕ} {argument : Bool} {first n : ℕ} → Known (item_of f marks argument) table → ItemsTo f marks argument table first n 0
items-to-none t = record { passing = passing-none; known = t }

module _ {f marks table : List ℕ} {argument : Bool} {first n i : ℕ} (s : ItemsTo f marks argument table first n i) where
  item-same : {at : ℕ} → ItemPlace first i at → (m : ℕ) → item_of f marks argument at m ≡ item_of f marks argument first (i + m)
  unfolding item_of
  item-same {at} place m = let q : at + 3 * m ≡ first + 3 * (i + m) = omega (arith, place.is) in rw q refl

  item-there : {to : ℕ} {r : Bool} (k : ℕ) → ItemPlace first (i + k) to → r ≡ item f marks argument to → r ≡ item_of f marks argument first (i + k)
  unfolding item_of
  item-there k t e = e ∙ rw t.is refl

  pub items-end : n ≤ i → true ≡ all_below n (item_of f marks argument first)
  items-end h = passing-all s.passing h refl

  pub items-all : {at k : ℕ} → ItemPlace first i at → k ≡ known table at → n - i ≤ k → true ≡ all_below n (item_of f marks argument first)
  items-all {at} {k} place = run-all (item_of f marks argument) first n i at k s.passing (item-same place) s.known

  pub items-no : {at to : ℕ} {r : Bool} (k : ℕ) → ItemPlace first i at → ItemPlace first (i + k) to → k < n - i → r ≡ item f marks argument to → not r ≡ true → false ≡ all_below n (item_of f marks argument first)
  items-no {at} {r = r} k place t h e = run-no (item_of f marks argument) first n i at k s.passing (item-same place) r (item-there k t e) h

  pub items-on : {at to k : ℕ} {r : Bool} → r ≡ item f marks argument to → not r ≡ false → ItemPlace first (i + k) to → ItemPlace first i at → k ≡ known table at → k < n - i → ItemsTo f marks argument table first n (i + (k + 1))
  items-on {at} {to} {k} {r} e q there place d h = record {
    passing = run_on (item_of f marks argument) first n i at k s.passing (item-same place) r s.known d (item-there k there e) h q;
    known = s.known;
  }
