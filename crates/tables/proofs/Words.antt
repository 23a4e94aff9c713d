-- What a program reads of a body, by the tests and the words that it has at hand
use mathlib.Core.Path.{◌≡◌, sym, ◌∙◌, ap}
use mathlib.Core.Bool.{true}
use mathlib.Core.List.{List}
use Prim.Native.Nat.{ℕ, ◌+◌, ◌*◌, ◌/◌, ◌<◌, ◌≤◌}
use native.Mathlib.Omega.{arith}
use lib.ListN.{length, get_or}
use Rattle.meaning.specs.Case.{words, offset, size, body_word, string_word, value_word, member_word, point_word, node_word}
use Rattle.meaning.specs.Check.{bodies}
use Rattle.laws.specs.Bodies.{word_fits, body-word, body-beyond}

-- u is a body's length as it is read, w the same number in a wider type
module _ (s : List ℕ) (k i u w : ℕ) (h : bodies s ≡ true) (hk : k < 6) (e : u ≡ size s k) (f : w ≡ u) where
  pub body-none : w / 4 ≤ i → 0 ≡ body_word s k i
  body-none le = sym (body-beyond s h k i (omega arith) (omega arith))

  module _ (o p : ℕ) (eo : o ≡ offset s k) (ep : p ≡ o) (lt : i < w / 4) where
    pub body-fits : 4 * (p / 4 + i) + 3 < length s
    body-fits = omega (arith, word_fits s h k i hk (omega arith))

    pub body-read : (r : ℕ) → r ≡ get_or (words s) (p / 4 + i) 0 → r ≡ body_word s k i
    body-read r er =
        let q : p / 4 + i ≡ offset s k / 4 + i = omega arith in
        er ∙ ap (λ (n : ℕ). get_or (words s) n 0) q ∙ sym (body-word s h k i hk (omega arith))

-- a word of no record: the record's number or the word's is beyond the body's bytes
module _ (s : List ℕ) (j u w : ℕ) (h : bodies s ≡ true) (f : w ≡ u) where
  pub no-string : (n : ℕ) → u ≡ size s 0 → w ≤ j → 0 ≡ string_word s n j
  unfolding string_word
  no-string n e le = sym (body-beyond s h 0 (2 * n + j) (omega arith) (omega arith))

  pub no_value : (v : ℕ) → u ≡ size s 1 → w ≤ j → 0 ≡ value_word s v j
  unfolding value_word
  no_value v e le = sym (body-beyond s h 1 (4 * v + j) (omega arith) (omega arith))

  pub no_node : (n : ℕ) → u ≡ size s 4 → w ≤ j → 0 ≡ node_word s n j
  unfolding node_word
  no_node n e le = sym (body-beyond s h 4 (8 * n + j) (omega arith) (omega arith))

  module _ (m : ℕ) where
    pub no_member : u ≡ size s 2 → w ≤ m → 0 ≡ member_word s m j
    unfolding member_word
    no_member e le = sym (body-beyond s h 2 (2 * m + j) (omega arith) (omega arith))

    pub no-member-word : u ≡ size s 2 → w ≤ j → 0 ≡ member_word s m j
    unfolding member_word
    no-member-word e le = sym (body-beyond s h 2 (2 * m + j) (omega arith) (omega arith))

    pub no-point : u ≡ size s 3 → w ≤ m → 0 ≡ point_word s m j
    unfolding point_word
    no-point e le = sym (body-beyond s h 3 (12 * m + j) (omega arith) (omega arith))

    pub no-point-word : u ≡ size s 3 → w ≤ j → 0 ≡ point_word s m j
    unfolding point_word
    no-point-word e le = sym (body-beyond s h 3 (12 * m + j) (omega arith) (omega arith))

-- a word of a record, whose number k is the wider n
module _ (s : List ℕ) (n j k r : ℕ) (e : k ≡ n) where
  pub string-read : r ≡ body_word s 0 (2 * k + j) → r ≡ string_word s n j
  unfolding string_word
  string-read f = f ∙ rw e

  pub value_read : r ≡ body_word s 1 (4 * k + j) → r ≡ value_word s n j
  unfolding value_word
  value_read f = f ∙ rw e

  pub node-read : r ≡ body_word s 4 (8 * k + j) → r ≡ node_word s n j
  unfolding node_word
  node-read f = f ∙ rw e

-- words of a record that is there, from its first word at i of the body on
module _ (s : List ℕ) (k i u w o p : ℕ) (h : bodies s ≡ true) (hk : k < 6) (e : u ≡ size s k) (f : w ≡ u) (eo : o ≡ offset s k) (ep : p ≡ o) where
  pub part-fits : (j : ℕ) → i + j < w / 4 → 4 * (p / 4 + i + j) + 3 < length s
  part-fits j lt = omega (arith, body-fits s k (i + j) u w h hk e f o p eo ep lt)

  pub part-read : (j r : ℕ) → i + j < w / 4 → r ≡ get_or (words s) (p / 4 + i + j) 0 → r ≡ body_word s k (i + j)
  part-read j r lt er =
      let q : p / 4 + i + j ≡ p / 4 + (i + j) = omega arith in
      body-read s k (i + j) u w h hk e f o p eo ep lt r (er ∙ ap (λ (n : ℕ). get_or (words s) n 0) q)
