-- Laws of words: the word at a place by its bytes, of a part of a file, before and beyond the end
use Rattle.std.specs.Prelude.{◌≡◌, refl, List, [], ◌∷◌, ◌++◌, ℕ, zero, suc, ◌+◌, ◌*◌, ◌/◌, ◌%◌, ◌<◌, ◌≤◌, length, get_or, take, drop}
use Rattle.std.proofs.Common.{sym, ◌∙◌, ap, arith, length-drop, length-append, get_or-take, get_or-drop, length-take-le}
use Rattle.std.proofs.Math.ListN.{get_or-append}
use Rattle.meaning.specs.Case.{word, words}

pub words-at : (s : List ℕ) (i : ℕ) → 4 * i + 3 < length s → get_or (words s) i 0 ≡ word (get_or s (4 * i) 0) (get_or s (4 * i + 1) 0) (get_or s (4 * i + 2) 0) (get_or s (4 * i + 3) 0)
unfolding words
words-at [] i h = absurd (omega arith)
words-at (a ∷ []) i h = absurd (omega arith)
words-at (a ∷ b ∷ []) i h = absurd (omega arith)
words-at (a ∷ b ∷ c ∷ []) i h = absurd (omega arith)
words-at (a ∷ b ∷ c ∷ d ∷ s) zero h = refl
words-at (a ∷ b ∷ c ∷ d ∷ s) (suc i) h =
    let e0 : 4 * suc i ≡ suc (suc (suc (suc (4 * i)))) = omega arith in
    let e1 : suc (suc (suc (suc (4 * i)))) + 1 ≡ suc (suc (suc (suc (4 * i + 1)))) = omega arith in
    let e2 : suc (suc (suc (suc (4 * i)))) + 2 ≡ suc (suc (suc (suc (4 * i + 2)))) = omega arith in
    let e3 : suc (suc (suc (suc (4 * i)))) + 3 ≡ suc (suc (suc (suc (4 * i + 3)))) = omega arith in
    rw (e0, e1, e2, e3) (words-at s i (omega arith))

-- beyond the end there is nothing
pub words-beyond : (s : List ℕ) (i : ℕ) → length s ≤ 4 * i + 3 → get_or (words s) i 0 ≡ 0
unfolding words
words-beyond [] i h = refl
words-beyond (a ∷ []) i h = refl
words-beyond (a ∷ b ∷ []) i h = refl
words-beyond (a ∷ b ∷ c ∷ []) i h = refl
words-beyond (a ∷ b ∷ c ∷ d ∷ s) zero h = absurd (omega arith)
words-beyond (a ∷ b ∷ c ∷ d ∷ s) (suc i) h = words-beyond s i (omega arith)

-- the same four bytes make the same word
pub words_same : (s t : List ℕ) (i j : ℕ) → 4 * i + 3 < length s → 4 * j + 3 < length t → ((k : ℕ) → k < 4 → get_or s (4 * i + k) 0 ≡ get_or t (4 * j + k) 0) → get_or (words s) i 0 ≡ get_or (words t) j 0
words_same s t i j hs ht same =
    let a : 4 * i + 0 ≡ 4 * i = omega arith in
    let b : 4 * j + 0 ≡ 4 * j = omega arith in
    let first : get_or s (4 * i) 0 ≡ get_or t (4 * j) 0 = ap (λ (n : ℕ). get_or s n 0) (sym a) ∙ same 0 (omega arith) ∙ ap (λ (n : ℕ). get_or t n 0) b in
    cc (words-at s i hs, words-at t j ht, first, same 1 (omega arith), same 2 (omega arith), same 3 (omega arith))

-- a word of a part that starts at a word of the whole
pub words-part : (s : List ℕ) (o n i : ℕ) → o % 4 ≡ 0 → 4 * i + 3 < n → o + n ≤ length s → get_or (words (take n (drop o s))) i 0 ≡ get_or (words s) (o / 4 + i) 0
words-part s o n i e h l =
    words_same (take n (drop o s)) s i (o / 4 + i) (omega (arith, length-take-le n (drop o s) (omega (arith, length-drop o s)))) (omega arith) byte
  where
    byte : (j : ℕ) → j < 4 → get_or (take n (drop o s)) (4 * i + j) 0 ≡ get_or s (4 * (o / 4 + i) + j) 0
    byte j hj =
        let z : o + (4 * i + j) ≡ 4 * (o / 4 + i) + j = omega arith in
        get_or-take n (drop o s) (4 * i + j) 0 (omega arith) ∙ get_or-drop o s (4 * i + j) 0 ∙ ap (λ (k : ℕ). get_or s k 0) z

-- a word of what stands first
pub words-first : (s t : List ℕ) (i : ℕ) → 4 * i + 3 < length s → get_or (words (s ++ t)) i 0 ≡ get_or (words s) i 0
words-first s t i h =
    words_same (s ++ t) s i i (omega (arith, length-append s t)) h (λ k hk. get_or-append s t 0 (4 * i + k) (omega arith))
