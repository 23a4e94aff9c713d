-- The finished case reads back as the same records: the text of a string's new number is that string's, and every word is the old one under it
use Rattle.std.specs.Prelude.{◌≡◌, refl, Bool, true, false, ◌⊎◌, ltb, take}
use Rattle.std.proofs.Common.{sym, ◌∙◌, inl, inr, ⊎_elim, lit<, ltb-true, ltb-false, lt-ltb, le-ltb}
use Rattle.std.proofs.Math.Path.{ap}
use mathlib.Core.List.{List, [], ◌∷◌, map}
use Prim.Native.Nat.{ℕ, zero, suc, ◌+◌, ◌*◌, ◌/◌, ◌<◌, ◌≤◌}
use native.Mathlib.Omega.{arith}
use Rattle.std.proofs.Math.ListN.{length, get_or}
use Rattle.meaning.specs.Tests.{choose}
use Rattle.meaning.specs.Text.{before}
use Rattle.meaning.specs.Case.{words, size, body, body_word, string_word, text, strings, vars, places}
use Rattle.meaning.specs.Check.{bodies}
use Rattle.laws.specs.Lists.{Every}
use Rattle.encode.specs.Words.{packed}
use Rattle.encode.specs.Encode.{flat, placed}
use Rattle.encode.specs.Join.{insert_new, below, joined}
use Rattle.encode.specs.Unsorted.{texts, number, renamed, table, tables, parts, finished}
use Rattle.encode.proofs.Laws.Words.{words-packed}
use Rattle.encode.proofs.Laws.Join.{Rising, joined-rises, joined-most, before-neither, before-not}
use Rattle.encode.proofs.Laws.Encode.{flat-at, placed-start, placed-size, encoded-body}
use Rattle.encode.proofs.Laws.Unsorted.{seven, strings-size}

-- ---- every text is among those joined

abbrev In : List ℕ → List (List ℕ) → Type 0
In x [] = ⊥
In x (y ∷ ys) = (x ≡ y) ⊎ In x ys

in_new : (x : List ℕ) (l : List (List ℕ)) → In x (insert_new x l)
unfolding insert_new choose
in_new x [] = inl refl
in_new x (y ∷ ys) = go (before y x) (before x y) refl refl (in_new x ys)
  where
    go : (a b : Bool) → before y x ≡ a → before x y ≡ b → In x (insert_new x ys) → In x (choose a (y ∷ insert_new x ys) (choose b (x ∷ y ∷ ys) (y ∷ ys)))
    go true b e f r = inr r
    go false true e f r = inl refl
    go false false e f r = inl (before-neither x y f e)

in_old : (x z : List ℕ) (l : List (List ℕ)) → In z l → In z (insert_new x l)
unfolding insert_new choose
in_old x z [] h = absurd h
in_old x z (y ∷ ys) h = go (before y x) (before x y) h (λ i. in_old x z ys i)
  where
    go : (a b : Bool) → (z ≡ y) ⊎ In z ys → (In z ys → In z (insert_new x ys)) → In z (choose a (y ∷ insert_new x ys) (choose b (x ∷ y ∷ ys) (y ∷ ys)))
    go true b h rest = ⊎_elim (λ e. inl e) (λ i. inr (rest i)) h
    go false true h rest = inr h
    go false false h rest = h

in_joined : (t : ℕ → List ℕ) (k n : ℕ) → k < n → In (t k) (joined t n)
unfolding joined
in_joined t k zero h = absurd (omega arith)
in_joined t k (suc n) h = go (ltb k n) refl (λ l. in_joined t k n l)
  where
    go : (b : Bool) → ltb k n ≡ b → (k < n → In (t k) (joined t n)) → In (t k) (insert_new (t n) (joined t n))
    go true e rest = in_old (t n) (t k) (joined t n) (rest (ltb-true k n e))
    go false e rest = let q : k ≡ n = omega (arith, ltb-false k n e) in rw q (in_new (t n) (joined t n))

-- and stands at its place
place_of : (x : List ℕ) (l : List (List ℕ)) → Rising l → In x l → (below x l < length l) × (get_or l (below x l) [] ≡ x)
unfolding below choose
place_of x [] r h = absurd h
place_of x (y ∷ ys) r h = ⊎_elim (λ e. here e) (λ i. there (before_of ys r.0 i) (place_of x ys r.1 i)) h
  where
    here : x ≡ y → (choose (before y x) (suc (below x ys)) 0 < suc (length ys)) × (get_or (y ∷ ys) (choose (before y x) (suc (below x ys)) 0) [] ≡ x)
    here e = rw (sym e, before-not x) (omega arith, refl)

    there : before y x ≡ true → (below x ys < length ys) × (get_or ys (below x ys) [] ≡ x) → (choose (before y x) (suc (below x ys)) 0 < suc (length ys)) × (get_or (y ∷ ys) (choose (before y x) (suc (below x ys)) 0) [] ≡ x)
    there e p = rw e (omega (arith, p.0), p.1)

    before_of : (l : List (List ℕ)) → Every (λ z. before y z ≡ true) l → In x l → before y x ≡ true
    before_of [] e i = absurd i
    before_of (z ∷ zs) e i = ⊎_elim (λ q. rw q e.0) (λ j. before_of zs e.1 j) i

-- ---- what the finished case reads as

pub place_at : (f : ℕ → ℕ) (first n i : ℕ) → i < n → get_or (map f (places first 1 n)) i 0 ≡ f (first + i)
unfolding places
place_at f first zero i h = absurd (omega arith)
place_at f first (suc n) zero h = let z : first ≡ first + 0 = omega arith in ap f z
place_at f first (suc n) (suc i) h = let z : first + 1 + i ≡ first + suc i = omega arith in place_at f (first + 1) n i (omega arith) ∙ ap f z

module _ (s marks : List ℕ) where
  text-body : body (finished s marks) 6 ≡ flat (texts s)
  unfolding finished parts tables
  text-body = encoded-body (vars s) (parts s marks) (seven s marks) 6 (lit< tt)

  string-body : body (finished s marks) 0 ≡ packed (placed 0 (texts s))
  unfolding finished parts
  string-body = encoded-body (vars s) (parts s marks) (seven s marks) 0 (lit< tt)

  place-word : (m j : ℕ) → string_word (finished s marks) m j ≡ get_or (placed 0 (texts s)) (2 * m + j) 0
  unfolding string_word body_word
  place-word m j = ap (λ (b : List ℕ). get_or (words b) (2 * m + j) 0) string-body ∙ ap (λ (ws : List ℕ). get_or ws (2 * m + j) 0) (words-packed (placed 0 (texts s)))

  table-body : (k : ℕ) → k < 5 → body (finished s marks) (suc k) ≡ table s marks (suc k)
  unfolding finished parts tables
  table-body zero h = encoded-body (vars s) (parts s marks) (seven s marks) 1 (lit< tt)
  table-body (suc zero) h = encoded-body (vars s) (parts s marks) (seven s marks) 2 (lit< tt)
  table-body (suc (suc zero)) h = encoded-body (vars s) (parts s marks) (seven s marks) 3 (lit< tt)
  table-body (suc (suc (suc zero))) h = encoded-body (vars s) (parts s marks) (seven s marks) 4 (lit< tt)
  table-body (suc (suc (suc (suc zero)))) h = encoded-body (vars s) (parts s marks) (seven s marks) 5 (lit< tt)
  table-body (suc (suc (suc (suc (suc k))))) h = absurd (omega arith)

  -- word i of table k + 1, counted from values to lists
  pub finished-word : (k i : ℕ) → k < 5 → i < size s (suc k) / 4 → body_word (finished s marks) (suc k) i ≡ renamed s marks (suc k) i
  unfolding body_word table
  finished-word k i h l =
      ap (λ (b : List ℕ). get_or (words b) i 0) (table-body k h)
      ∙ ap (λ (ws : List ℕ). get_or ws i 0) (words-packed (map (renamed s marks (suc k)) (places 0 1 (size s (suc k) / 4))))
      ∙ place_at (renamed s marks (suc k)) 0 (size s (suc k) / 4) i l
      ∙ ap (renamed s marks (suc k)) (omega arith)

  -- string m of it is the m-th of the different texts
  pub finished-text : (m : ℕ) → m < length (texts s) → text (finished s marks) m ≡ get_or (texts s) m []
  unfolding text
  finished-text m h =
      let z : 2 * m + 0 ≡ 2 * m = omega arith in
      let start : string_word (finished s marks) m 0 ≡ 0 + length (flat (take m (texts s))) = place-word m 0 ∙ ap (λ (i : ℕ). get_or (placed 0 (texts s)) i 0) z ∙ placed-start 0 (texts s) m h in
      let many : string_word (finished s marks) m 1 ≡ length (get_or (texts s) m []) = place-word m 1 ∙ placed-size 0 (texts s) m h in
      let from : string_word (finished s marks) m 0 ≡ length (flat (take m (texts s))) = omega (arith, start) in
      rw (many, from, text-body) (flat-at (texts s) m h)

  -- a string's place among the texts
  placed-text : (k : ℕ) → k < strings s → (below (text s k) (texts s) < length (texts s)) × (get_or (texts s) (below (text s k) (texts s)) [] ≡ text s k)
  unfolding texts
  placed-text k h = place_of (text s k) (joined (text s) (strings s)) (joined-rises (text s) (strings s)) (in_joined (text s) k (strings s) h)

  -- a string's new number names the same text
  pub reads-back : (k : ℕ) → k < strings s → text (finished s marks) (number s k) ≡ text s k
  unfolding number choose
  reads-back k h = rw (lt-ltb k (strings s) h) (finished-text (below (text s k) (texts s)) (placed-text k h).0 ∙ (placed-text k h).1)

  -- it is a string's, and a number that was none's stays none's
  module _ (h : bodies s ≡ true) where
    pub number-inside : (k : ℕ) → k < strings s → number s k < strings (finished s marks)
    unfolding number choose
    number-inside k l = rw (lt-ltb k (strings s) l) (omega (arith, (placed-text k l).0, strings-size s marks h))

    pub number-outside : (k : ℕ) → strings s ≤ k → strings (finished s marks) ≤ number s k
    unfolding number choose texts
    number-outside k l = rw (le-ltb k (strings s) l) (omega (arith, joined-most (text s) (strings s), strings-size s marks h))
