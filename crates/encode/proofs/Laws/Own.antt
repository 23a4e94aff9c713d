-- A file that passes rule 1 is encoded from its own bodies, and each table from its own words
use Rattle.std.specs.Prelude.{◌≡◌, true}
use Rattle.std.proofs.Math.Path.{refl, sym, ap, ap₂}
use Rattle.std.proofs.Common.{◌∙◌, add-one, drop_of_length-le, ext_get_or, drop-drop}
use mathlib.Core.List.{List, [], ◌∷◌, ◌++◌, map}
use Prim.Native.Nat.{ℕ, zero, suc, ◌+◌, ◌*◌, ◌/◌, ◌%◌, ◌<◌}
use native.Mathlib.Omega.{arith}
use Rattle.std.proofs.Math.ListN.{length, get_or, take, drop, take-append-drop}
use Rattle.std.proofs.lemmas.List.{length-map}
use Rattle.std.proofs.Math.Seq.{drop-cons, drop-length, length-take-le}
use borrow.Author.Tests.{eqb-true}
use Rattle.meaning.specs.Case.{word, words, contents, offset, size, body, body_word, vars, places}
use Rattle.meaning.specs.Check.{start_of, body_rule, bodies}
use Rattle.laws.specs.Tests.{both, all-at}
use Rattle.laws.specs.Lists.{Every}
use Rattle.laws.specs.Words.{words-part}
use Rattle.laws.specs.Bodies.{long, edition, body-length}
use Rattle.encode.specs.Words.{packed}
use Rattle.encode.specs.Encode.{flat, placed, encoded}
use Rattle.encode.proofs.Laws.Unsorted.{places-long, quarter}
use Rattle.encode.proofs.Laws.ReadBack.{place_at}

-- ---- bytes as words and back

-- every one is below 256
abbrev pub Bytes : List ℕ → Type 0
Bytes s = Every (λ b. b < 256) s

bytes_take : (n : ℕ) (s : List ℕ) → Bytes s → Bytes (take n s)
bytes_take zero s e = tt
bytes_take (suc n) [] e = tt
bytes_take (suc n) (b ∷ s) e = (e.0, bytes_take n s e.1)

bytes_drop : (n : ℕ) (s : List ℕ) → Bytes s → Bytes (drop n s)
bytes_drop zero s e = e
bytes_drop (suc n) [] e = tt
bytes_drop (suc n) (b ∷ s) e = bytes_drop n s e.1

four : (a b c d : ℕ) (rest : List ℕ) → a < 256 → b < 256 → c < 256 → packed (word a b c d ∷ rest) ≡ a ∷ b ∷ c ∷ d ∷ packed rest
unfolding packed
four a b c d rest ha hb hc =
    let p : word a b c d % 256 ≡ a = omega arith in
    let two : word a b c d / 256 ≡ b + 256 * (c + 256 * d) = omega arith in
    let three : word a b c d / 65536 ≡ c + 256 * d = omega arith in
    let q : word a b c d / 256 % 256 ≡ b = ap (λ (n : ℕ). n % 256) two ∙ low b (c + 256 * d) hb in
    let r : word a b c d / 65536 % 256 ≡ c = ap (λ (n : ℕ). n % 256) three ∙ low c d hc in
    let t : word a b c d / 16777216 ≡ d = omega arith in
    cc (p, q, r, t)
  where
    low : (x y : ℕ) → x < 256 → (x + 256 * y) % 256 ≡ x
    low x y h = omega arith

packed-words : (s : List ℕ) → Bytes s → length s % 4 ≡ 0 → packed (words s) ≡ s
unfolding words packed
packed-words [] e h = refl
packed-words (a ∷ []) e h = absurd (omega arith)
packed-words (a ∷ b ∷ []) e h = absurd (omega arith)
packed-words (a ∷ b ∷ c ∷ []) e h = absurd (omega arith)
packed-words (a ∷ b ∷ c ∷ d ∷ rest) e h =
    four a b c d (words rest) e.0 e.1.0 e.1.1.0
    ∙ ap (λ (t : List ℕ). a ∷ b ∷ c ∷ d ∷ t) (packed-words rest e.1.1.1.1 (omega arith))

pub words_count : (s : List ℕ) → length (words s) ≡ length s / 4
unfolding words
words_count [] = refl
words_count (a ∷ []) = refl
words_count (a ∷ b ∷ []) = refl
words_count (a ∷ b ∷ c ∷ []) = refl
words_count (a ∷ b ∷ c ∷ d ∷ rest) = omega (arith, words_count rest)

-- a list by its entries
entries : (l : List ℕ) → map (λ i. get_or l i 0) (places 0 1 (length l)) ≡ l
entries l =
    ext_get_or 0 (map (λ i. get_or l i 0) (places 0 1 (length l))) l long_as (λ i h. place_at (λ i. get_or l i 0) 0 (length l) i (omega (arith, long_as)) ∙ ap (λ (n : ℕ). get_or l n 0) (omega arith))
  where
    long_as : length (map (λ i. get_or l i 0) (places 0 1 (length l))) ≡ length l
    long_as = length-map (places 0 1 (length l)) (λ i. get_or l i 0) ∙ places-long 0 (length l)

-- ---- a file and its bodies

module _ (s : List ℕ) (h : bodies s ≡ true) where
  starts : (k : ℕ) → k < 7 → offset s k ≡ start_of s k
  unfolding bodies body_rule
  starts k l = eqb-true _ _ (both _ _ (all-at (body_rule s) 7 k (both _ _ (both _ _ (both _ _ h).1).1).0 l)).0

  fills : start_of s 7 ≡ length s
  unfolding bodies
  fills = eqb-true _ _ (both _ _ (both _ _ (both _ _ h).1).1).1

  -- the bodies from k on
  flat-own : (more k : ℕ) → k + more ≡ 7 → flat (map (body s) (places k 1 more)) ≡ drop (start_of s k) s
  unfolding flat places body
  flat-own zero k e =
      let z : k ≡ 7 = omega arith in
      rw z (sym (ap (λ (n : ℕ). drop n s) fills ∙ drop-length s))
  flat-own (suc more) k e =
      ap₂ (λ (n : ℕ) (rest : List ℕ). take (size s k) (drop n s) ++ rest) (starts k (omega arith)) (flat-own more (k + 1) (omega arith) ∙ next)
      ∙ take-append-drop (size s k) (drop (start_of s k) s)
    where
      next : drop (start_of s (k + 1)) s ≡ drop (size s k) (drop (start_of s k) s)
      next = rw (add-one k) (unfold start_of in sym (drop-drop (size s k) (start_of s k) s))

  head : List ℕ
  head = words (take 64 s)

  head-long : length head ≡ 16
  unfolding head
  head-long = words_count (take 64 s) ∙ ap (λ (n : ℕ). n / 4) (length-take-le 64 s (long s h))

  head_at : (i : ℕ) → i < 16 → get_or head i 0 ≡ contents s i
  unfolding head contents
  head_at i l = words-part s 0 64 i refl (omega arith) (long s h) ∙ ap (λ (n : ℕ). get_or (words s) n 0) (omega arith)

  -- their places are the contents' own
  placed-own : (more k : ℕ) → k + more ≡ 7 → placed (start_of s k) (map (body s) (places k 1 more)) ≡ drop (suc (suc (2 * k))) head
  unfolding placed places
  placed-own zero k e = sym (drop_of_length-le head {i = suc (suc (2 * k))} (omega (arith, head-long)))
  placed-own (suc more) k e =
      let at : get_or head (suc (suc (2 * k))) 0 ≡ start_of s k = head_at (suc (suc (2 * k))) (omega arith) ∙ unfold offset in (ap (contents s) (omega arith) ∙ starts k (omega arith)) in
      let many : get_or head (suc (suc (suc (2 * k)))) 0 ≡ length (body s k) = head_at (suc (suc (suc (2 * k)))) (omega arith) ∙ unfold size in (ap (contents s) (omega arith) ∙ sym (body-length s h k (omega arith))) in
      let first = drop-cons head (suc (suc (2 * k))) 0 (omega (arith, head-long)) in
      let second = drop-cons head (suc (suc (suc (2 * k)))) 0 (omega (arith, head-long)) in
      let z : suc (suc (2 * (k + 1))) ≡ suc (suc (suc (suc (2 * k)))) = omega arith in
      cc (at, many, first, second, z, next, placed-own more (k + 1) (omega arith))
    where
      next : start_of s k + length (body s k) ≡ start_of s (k + 1)
      next = rw (add-one k) (unfold start_of in ap (λ (n : ℕ). start_of s k + n) (body-length s h k (omega arith)))

  module _ (bytes : Bytes s) where
    contents-own : packed (1 ∷ vars s ∷ placed 64 (map (body s) (places 0 1 7))) ≡ take 64 s
    unfolding start_of head
    contents-own =
        let first : head ≡ get_or head 0 0 ∷ drop 1 head = drop-cons head 0 0 (omega (arith, head-long)) in
        let second : drop 1 head ≡ get_or head 1 0 ∷ drop 2 head = drop-cons head 1 0 (omega (arith, head-long)) in
        let here : get_or head 0 0 ≡ 1 = head_at 0 (omega arith) ∙ edition s h in
        let vars-at : get_or head 1 0 ≡ vars s = head_at 1 (omega arith) in
        let same : (1 ∷ vars s ∷ placed 64 (map (body s) (places 0 1 7))) ≡ head = cc (first, second, here, vars-at, placed-own 7 0 refl) in
        ap packed same ∙ packed-words (take 64 s) (bytes_take 64 s bytes) (omega (arith, length-take-le 64 s (long s h)))

    -- a file is encoded from its own bodies
    pub encoded-own : encoded (vars s) (map (body s) (places 0 1 7)) ≡ s
    unfolding encoded start_of
    encoded-own = ap₂ (λ (p q : List ℕ). p ++ q) contents-own (flat-own 7 0 refl) ∙ take-append-drop 64 s

    body_bytes : (k : ℕ) → Bytes (body s k)
    unfolding body
    body_bytes k = bytes_take (size s k) (drop (offset s k) s) (bytes_drop (offset s k) s bytes)

    pub packed-own : (k : ℕ) → k < 6 → packed (words (body s k)) ≡ body s k
    packed-own k l = packed-words (body s k) (body_bytes k) (omega (arith, body-length s h k (omega arith), quarter s s h k l))

    -- a table from its own words
    pub table-own : (k : ℕ) → k < 6 → packed (map (body_word s k) (places 0 1 (size s k / 4))) ≡ body s k
    unfolding body_word
    table-own k l =
        ap (λ (n : ℕ). packed (map (λ i. get_or (words (body s k)) i 0) (places 0 1 n))) (ap (λ (n : ℕ). n / 4) (sym (body-length s h k (omega arith))) ∙ sym (words_count (body s k)))
        ∙ ap packed (entries (words (body s k)))
        ∙ packed-own k l
