-- A checked case is its own finished case: its strings stand in order and end to end, so that joining leaves them and no number changes
use Rattle.std.specs.Prelude.{◌≡◌, Bool, get_or, drop}
use Rattle.std.proofs.Math.Path.{refl, sym, ap, fun_ext}
use Rattle.std.proofs.Common.{◌∙◌, lit<, take-suc, take-add}
use Rattle.std.proofs.Math.Bool.{true, false}
use mathlib.Core.List.{List, [], ◌∷◌, ◌++◌, map, append_assoc}
use Prim.Native.Nat.{ℕ, zero, suc, ◌+◌, ◌*◌, ◌/◌, ◌<◌, ◌≤◌}
use native.Mathlib.Omega.{arith}
use Rattle.std.proofs.Math.Dec.{ltb}
use Rattle.std.proofs.Math.ListN.{length, take, length-append, length-drop, get_or-append}
use Rattle.std.proofs.Math.Seq.{take_all, length-take-le}
use Rattle.std.proofs.lemmas.List.{get_or_at}
use borrow.Author.Tests.{ltb-true, ltb-false, eqb-true, leb-true}
use Rattle.meaning.specs.Tests.{choose, pick, rises}
use Rattle.meaning.specs.Text.{before}
use Rattle.meaning.specs.Case.{words, size, body, body_word, string_word, text, strings, vars, places}
use Rattle.meaning.specs.Check.{bodies, end_before, place_rule, end_to_end, order_rule, string_rules}
use Rattle.laws.specs.Tests.{both, all-at}
use Rattle.laws.specs.Lists.{Every}
use Rattle.laws.specs.Bodies.{wholes, body-length}
use Rattle.encode.specs.Words.{packed}
use Rattle.encode.specs.Encode.{flat, placed, encoded}
use Rattle.encode.specs.Join.{insert_new, below, joined}
use Rattle.encode.specs.Unsorted.{texts, number, names, renamed, table, tables, parts, finished}
use Rattle.encode.proofs.Laws.Join.{before_trans, before-not, insert_every, joined-rises, place-above, place-below}
use Rattle.encode.proofs.Laws.Encode.{flat-more, placed-more}
use Rattle.encode.proofs.Laws.Own.{Bytes, words_count, packed-own, encoded-own, table-own}

-- a text after all others goes last
insert_last : (x : List ℕ) (l : List (List ℕ)) → Every (λ y. before y x ≡ true) l → insert_new x l ≡ l ++ (x ∷ [])
unfolding insert_new choose
insert_last x [] e = refl
insert_last x (y ∷ ys) e = rw e.0 (ap (λ (t : List (List ℕ)). y ∷ t) (insert_last x ys e.1))

every-joined : (P : List ℕ → Type 0) (t : ℕ → List ℕ) (k : ℕ) → ((i : ℕ) → i < k → P (t i)) → Every P (joined t k)
unfolding joined
every-joined P t zero f = tt
every-joined P t (suc k) f = insert_every P (t k) (joined t k) (f k (omega arith)) (every-joined P t k (λ i h. f i (omega arith)))

-- ---- texts that rise

module _ (t : ℕ → List ℕ) (n : ℕ) (up : (k : ℕ) → suc k < n → before (t k) (t (suc k)) ≡ true) where
  before_of : (i k : ℕ) → i < k → k < n → before (t i) (t k) ≡ true
  before_of i zero l h = absurd (omega arith)
  before_of i (suc k) l h = go (ltb i k) refl (λ m. before_of i k m (omega arith))
    where
      go : (b : Bool) → ltb i k ≡ b → (i < k → before (t i) (t k) ≡ true) → before (t i) (t (suc k)) ≡ true
      go true e rest = before_trans (t i) (t k) (t (suc k)) (rest (ltb-true i k e)) (up k h)
      go false e rest = let q : i ≡ k = omega (arith, ltb-false i k e) in rw q (up k h)

  -- each goes last
  pub joined-next : (k : ℕ) → k < n → joined t (suc k) ≡ joined t k ++ (t k ∷ [])
  unfolding joined
  joined-next k h = insert_last (t k) (joined t k) (every-joined (λ y. before y (t k) ≡ true) t k (λ i l. before_of i k l h))

  pub joined-count : (k : ℕ) → k ≤ n → length (joined t k) ≡ k
  joined-count zero h = unfold joined in refl
  joined-count (suc k) h = ap length (joined-next k h) ∙ omega (arith, length-append (joined t k) (t k ∷ []), joined-count k (omega arith))

  pub joined_at : (k i : ℕ) → k ≤ n → i < k → get_or (joined t k) i [] ≡ t i
  joined_at zero i h l = absurd (omega arith)
  joined_at (suc k) i h l = ap (λ (b : List (List ℕ)). get_or b i []) (joined-next k h) ∙ go (ltb i k) refl (λ m. joined_at k i (omega arith) m)
    where
      go : (b : Bool) → ltb i k ≡ b → (i < k → get_or (joined t k) i [] ≡ t i) → get_or (joined t k ++ (t k ∷ [])) i [] ≡ t i
      go true e rest = get_or-append (joined t k) (t k ∷ []) [] i (omega (arith, joined-count k (omega arith), ltb-true i k e)) ∙ rest (ltb-true i k e)
      go false e rest =
          let q : i ≡ k = omega (arith, ltb-false i k e) in
          rw q (get_or_at (joined t k) (t k) [] [] k (joined-count k (omega arith)))

  -- and its place is its number
  pub place-own : (k : ℕ) → k < n → below (t k) (joined t n) ≡ k
  place-own k h = omega (arith, low k h, high)
    where
      high : below (t k) (joined t n) ≤ k
      high = place-below (t k) (joined t n) k (omega (arith, joined-count n (omega arith))) (ap (λ (x : List ℕ). before x (t k)) (joined_at n k (omega arith) h) ∙ before-not (t k))

      low : (k : ℕ) → k < n → k ≤ below (t k) (joined t n)
      low zero h = omega arith
      low (suc k) h =
          place-above (t (suc k)) (joined t n) k (joined-rises t n) (omega (arith, joined-count n (omega arith)))
          (ap (λ (x : List ℕ). before x (t (suc k))) (joined_at n k (omega arith) (omega arith)) ∙ up k h)

-- ---- a case whose rules 1 and 3 hold

module _ (s : List ℕ) (h : bodies s ≡ true) (rules : string_rules s ≡ true) where
  up : (k : ℕ) → suc k < strings s → before (text s k) (text s (suc k)) ≡ true
  unfolding string_rules order_rule rises
  up k l = all-at (order_rule s) (strings s) (suc k) (both _ _ (both _ _ rules).1).1 l

  in_place : (k : ℕ) → k < strings s → place_rule s k ≡ true
  unfolding string_rules end_to_end
  in_place k l = all-at (place_rule s) (strings s) k (both _ _ (both _ _ rules).0).0 l

  start_is : (k : ℕ) → k < strings s → string_word s k 0 ≡ end_before s k
  unfolding place_rule
  start_is k l = eqb-true _ _ (both _ _ (in_place k l)).0

  pub end_in : (k : ℕ) → k < strings s → string_word s k 0 + string_word s k 1 ≤ size s 6
  unfolding place_rule
  end_in k l = leb-true _ _ (both _ _ (in_place k l)).1

  end-last : end_before s (strings s) ≡ size s 6
  unfolding string_rules end_to_end
  end-last = eqb-true _ _ (both _ _ (both _ _ rules).0).1

  -- every string keeps its number
  pub number_same : (n : ℕ) → number s n ≡ n
  unfolding number texts choose
  number_same n = go (ltb n (strings s)) refl
    where
      go : (b : Bool) → ltb n (strings s) ≡ b → choose b (below (text s n) (joined (text s) (strings s))) n ≡ n
      go true e = place-own (text s) (strings s) up n (ltb-true n (strings s) e)
      go false e = refl

  -- so no word changes, whatever is marked
  renamed-same : (marks : List ℕ) (k i : ℕ) → renamed s marks k i ≡ body_word s k i
  unfolding renamed choose
  renamed-same marks k i = go (names s marks k i)
    where
      go : (b : Bool) → choose b (number s (body_word s k i)) (body_word s k i) ≡ body_word s k i
      go true = number_same (body_word s k i)
      go false = refl

  end_before_lem : (k : ℕ) → k ≤ strings s → end_before s k ≤ size s 6
  unfolding end_before
  end_before_lem zero l = omega arith
  end_before_lem (suc k) l = end_in k l

  -- the texts end to end are text
  flat-texts : (k : ℕ) → k ≤ strings s → flat (joined (text s) k) ≡ take (end_before s k) (body s 6)
  unfolding end_before joined flat text
  flat-texts zero l = refl
  flat-texts (suc k) l =
      ap flat (joined-next (text s) (strings s) up k l)
      ∙ flat-more (joined (text s) k) (text s k)
      ∙ ap (λ (p : List ℕ). p ++ text s k) (flat-texts k (omega arith) ∙ ap (λ (n : ℕ). take n (body s 6)) (sym (start_is k l)))
      ∙ sym (take-add (string_word s k 0) (string_word s k 1) (body s 6))

  text-own : flat (texts s) ≡ body s 6
  unfolding texts
  text-own = flat-texts (strings s) (omega arith) ∙ take_all (end_before s (strings s)) (body s 6) (omega (arith, end-last, body-length s h 6 (lit< tt)))

  -- and their places the strings' words
  flat-long : (k : ℕ) → k < strings s → 0 + length (flat (joined (text s) k)) ≡ string_word s k 0
  flat-long k l =
      omega (arith, ap length (flat-texts k (omega arith)), length-take-le (end_before s k) (body s 6) (omega (arith, end_before_lem k (omega arith), body-length s h 6 (lit< tt))), start_is k l)

  text-long : (k : ℕ) → k < strings s → length (text s k) ≡ string_word s k 1
  unfolding text
  text-long k l =
      length-take-le (string_word s k 1) (drop (string_word s k 0) (body s 6)) (omega (arith, length-drop (string_word s k 0) (body s 6), end_in k l, body-length s h 6 (lit< tt)))

  words_long : length (words (body s 0)) ≡ 2 * strings s
  unfolding pick
  words_long = words_count (body s 0) ∙ ap (λ (n : ℕ). n / 4) (body-length s h 0 (lit< tt)) ∙ omega (arith, wholes s h 0 (lit< tt))

  two-more : (k : ℕ) → k < strings s → take (2 * suc k) (words (body s 0)) ≡ take (2 * k) (words (body s 0)) ++ (string_word s k 0 ∷ string_word s k 1 ∷ [])
  unfolding string_word body_word
  two-more k l =
      let w = words (body s 0) in
      let n : 2 * suc k ≡ suc (suc (2 * k)) = omega arith in
      let z : 2 * k + 0 ≡ 2 * k = omega arith in
      let one : 2 * k + 1 ≡ suc (2 * k) = omega arith in
      rw (n, z, one)
      (take-suc w (suc (2 * k)) 0 (omega (arith, words_long))
      ∙ ap (λ (b : List ℕ). b ++ (get_or w (suc (2 * k)) 0 ∷ [])) (take-suc w (2 * k) 0 (omega (arith, words_long)))
      ∙ append_assoc (take (2 * k) w) (get_or w (2 * k) 0 ∷ []) (get_or w (suc (2 * k)) 0 ∷ []))

  placed-texts : (k : ℕ) → k ≤ strings s → placed 0 (joined (text s) k) ≡ take (2 * k) (words (body s 0))
  placed-texts zero l = unfold placed joined in refl
  placed-texts (suc k) l =
      ap (placed 0) (joined-next (text s) (strings s) up k l)
      ∙ placed-more 0 (joined (text s) k) (text s k)
      ∙ cc (placed-texts k (omega arith), flat-long k l, text-long k l)
      ∙ sym (two-more k l)

  strings-own : Bytes s → packed (placed 0 (texts s)) ≡ body s 0
  unfolding texts
  strings-own bytes =
      ap packed (placed-texts (strings s) (omega arith) ∙ take_all (2 * strings s) (words (body s 0)) (omega (arith, words_long))) ∙ packed-own s h bytes 0 (lit< tt)

  table_same : Bytes s → (marks : List ℕ) (k : ℕ) → k < 6 → table s marks k ≡ body s k
  unfolding table
  table_same bytes marks k l = ap (λ (f : ℕ → ℕ). packed (map f (places 0 1 (size s k / 4)))) (fun_ext (renamed-same marks k)) ∙ table-own s h bytes k l

  -- the finished case is the case itself
  pub finished-same : Bytes s → (marks : List ℕ) → finished s marks ≡ s
  unfolding finished
  finished-same bytes marks = ap (encoded (vars s)) same ∙ encoded-own s h bytes
    where
      same : parts s marks ≡ map (body s) (places 0 1 7)
      same = unfold parts tables places in
          cc (
            strings-own bytes,
            table_same bytes marks 1 (lit< tt),
            table_same bytes marks 2 (lit< tt),
            table_same bytes marks 3 (lit< tt),
            table_same bytes marks 4 (lit< tt),
            table_same bytes marks 5 (lit< tt),
            text-own,
          )
