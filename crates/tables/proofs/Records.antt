-- Whole records read at once: a node, a point's time; and what there is beyond the table
use mathlib.Core.Path.{◌≡◌, sym, ◌∙◌, ap}
use mathlib.Core.Bool.{true}
use mathlib.Core.List.{List}
use Prim.Native.Nat.{ℕ, ◌+◌, ◌*◌, ◌/◌, ◌<◌, ◌≤◌}
use native.Mathlib.Omega.{arith}
use lib.Dec.{lit<}
use lib.ListN.{length, get_or}
use mir.Val.{to_z}
use mir.Syntax.{w64}
use Rattle.meaning.specs.declared.Node.{Node}
use Rattle.meaning.specs.declared.Node.TheVariants.{Broken}
use Rattle.meaning.specs.Case.{words, offset, size, body_word, point_word, node_word, node_from, node_at, point_at, signed}
use Rattle.meaning.specs.Check.{bodies}
use Rattle.meaning.specs.Tests.{pick}
use Rattle.laws.specs.Bodies.{body-beyond, wholes}
use Rattle.laws.specs.Nodes.{node-beyond}
use Rattle.tables.proofs.Words.{body-fits, body-read, part-fits, part-read, node-read}
use Rattle.tables.proofs.Choices.{node-read-at}

-- ---- nodes: k is the number n in a wider type, w the table's bytes, p where it starts

pub node-none : (s : List ℕ) (n k u w : ℕ) → bodies s ≡ true → u ≡ size s 4 → w ≡ u → k ≡ n → w / 32 ≤ k → Broken ≡ node_at s n
node-none s n k u w h e f en le = sym (node-beyond s h n (omega (arith, e, f, en, le)))

module _ (s : List ℕ) (n k u w o p : ℕ) (h : bodies s ≡ true) (e : u ≡ size s 4) (f : w ≡ u) (eo : o ≡ offset s 4) (ep : p ≡ o) (en : k ≡ n) (lt : k < w / 32) where
  pub node-first : 4 * (p / 4 + 8 * k) + 3 < length s
  node-first = body-fits s 4 (8 * k) u w h (lit< tt) e f o p eo ep (omega (arith, lt))

  node-start : (r : ℕ) → r ≡ get_or (words s) (p / 4 + 8 * k) 0 → r ≡ node_word s n 0
  node-start r er =
      let z : 8 * k ≡ 8 * k + 0 = omega arith in
      node-read s n 0 k r en (body-read s 4 (8 * k) u w h (lit< tt) e f o p eo ep (omega (arith, lt)) r er ∙ ap (body_word s 4) z)

  node-part : (j r : ℕ) → j < 8 → r ≡ get_or (words s) (p / 4 + 8 * k + j) 0 → r ≡ node_word s n j
  node-part j r hj er = node-read s n j k r en (part-read s 4 (8 * k) u w o p h (lit< tt) e f eo ep j r (omega (arith, lt, hj)) er)

  pub node-whole : (q a b c d g l : ℕ) (r : Node) → q ≡ get_or (words s) (p / 4 + 8 * k) 0 → a ≡ get_or (words s) (p / 4 + 8 * k + 1) 0 → b ≡ get_or (words s) (p / 4 + 8 * k + 2) 0 → c ≡ get_or (words s) (p / 4 + 8 * k + 3) 0 → d ≡ get_or (words s) (p / 4 + 8 * k + 4) 0 → g ≡ get_or (words s) (p / 4 + 8 * k + 5) 0 → l ≡ get_or (words s) (p / 4 + 8 * k + 6) 0 → r ≡ node_from q a b c d g l → r ≡ node_at s n
  node-whole q a b c d g l r eq ea eb ec ed eg el er =
      node-read-at s n q a b c d g l r
      (node-start q eq)
      (node-part 1 a (lit< tt) ea)
      (node-part 2 b (lit< tt) eb)
      (node-part 3 c (lit< tt) ec)
      (node-part 4 d (lit< tt) ed)
      (node-part 5 g (lit< tt) eg)
      (node-part 6 l (lit< tt) el)
      er

-- what the place and the number say goes first: then each further fact is sought by a number that is known
pub node-fits : (s : List ℕ) (k u w o p j : ℕ) → p ≡ o → o ≡ offset s 4 → k < w / 32 → w ≡ u → u ≡ size s 4 → bodies s ≡ true → j < 8 → 4 * (p / 4 + 8 * k + j) + 3 < length s
node-fits s k u w o p j ep eo lt f e h hj = part-fits s 4 (8 * k) u w o p h (lit< tt) e f eo ep j (omega (arith, lt, hj))

-- ---- times

no_word : (s : List ℕ) (q j u w : ℕ) → bodies s ≡ true → u ≡ size s 3 → w ≡ u → w / 48 ≤ q → point_word s q j ≡ 0
unfolding point_word pick
no_word s q j u w h e f le = body-beyond s h 3 (12 * q + j) (lit< tt) (omega (arith, wholes s h 3 (lit< tt), e, f, le))

pub time-none : (s : List ℕ) (q u w : ℕ) → bodies s ≡ true → u ≡ size s 3 → w ≡ u → w / 48 ≤ q → to_z w64 0 ≡ (point_at s q).time
unfolding point_at signed
time-none s q u w h e f le = cc (no_word s q 0 u w h e f le, no_word s q 1 u w h e f le)

module _ (s : List ℕ) (q u w o p : ℕ) (h : bodies s ≡ true) (e : u ≡ size s 3) (f : w ≡ u) (eo : o ≡ offset s 3) (ep : p ≡ o) (lt : q < w / 48) where
  pub time-first : 4 * (p / 4 + 12 * q) + 3 < length s
  time-first = body-fits s 3 (12 * q) u w h (lit< tt) e f o p eo ep (omega (arith, lt))

  pub time-fits : 4 * (p / 4 + 12 * q + 1) + 3 < length s
  time-fits = part-fits s 3 (12 * q) u w o p h (lit< tt) e f eo ep 1 (omega (arith, lt))

  low_read : (r : ℕ) → r ≡ get_or (words s) (p / 4 + 12 * q) 0 → r ≡ point_word s q 0
  unfolding point_word
  low_read r er =
      let z : 12 * q ≡ 12 * q + 0 = omega arith in
      body-read s 3 (12 * q) u w h (lit< tt) e f o p eo ep (omega (arith, lt)) r er ∙ ap (body_word s 3) z

  high_read : (r : ℕ) → r ≡ get_or (words s) (p / 4 + 12 * q + 1) 0 → r ≡ point_word s q 1
  unfolding point_word
  high_read r er = part-read s 3 (12 * q) u w o p h (lit< tt) e f eo ep 1 r (omega (arith, lt)) er

  pub time-whole : (low high r : ℕ) → low ≡ get_or (words s) (p / 4 + 12 * q) 0 → high ≡ get_or (words s) (p / 4 + 12 * q + 1) 0 → r ≡ low + 4294967296 * high → to_z w64 r ≡ (point_at s q).time
  unfolding point_at signed
  time-whole low high r el eh er = cc (low_read low el, high_read high eh)
