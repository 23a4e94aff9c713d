-- An unsorted case, a file whose strings may stand in any order, be equal, overlap or leave gaps, with a mark for each list word; and the finished case that it makes
use Rattle.std.specs.Prelude.{Bool, false, not, List, [], ◌∷◌, ◌++◌, map, ℕ, ◌+◌, ◌/◌, ◌%◌, leb, ltb, eqb, get_or}
use Rattle.meaning.specs.Tests.{◌and◌, ◌or◌, choose, pick, within}
use Rattle.meaning.specs.Case.{size, body_word, vars, strings, value_word, node_word, string_word, text, places}
use Rattle.encode.specs.Words.{packed}
use Rattle.encode.specs.Encode.{flat, placed, encoded}
use Rattle.encode.specs.Join.{joined, below}

-- the unsorted file by its bytes
module _ (s : List ℕ) where
  -- a string's bytes lie in text; one that leaves text counts with the bytes that are there
  unfoldable pub in_text : ℕ → Bool
  in_text k = leb (string_word s k 0 + string_word s k 1) (size s 6)

  -- the different texts, in rising byte order
  unfoldable pub texts : List (List ℕ)
  texts = joined (text s) (strings s)

  -- a string's new number; a number that names no string is kept
  unfoldable pub number : ℕ → ℕ
  number n = choose (ltb n (strings s)) (below (text s n) texts) n

  -- ---- the words that name strings

  -- kinds 3 Decimal and 4 String by word 1, 5 Entity by words 1 and 2
  unfoldable pub value_names : ℕ → Bool
  value_names i =
      (eqb (i % 4) 1 and within 3 5 (value_word s (i / 4) 0)) or (eqb (i % 4) 2 and eqb (value_word s (i / 4) 0) 5)

  -- every member's name
  unfoldable pub member_names : ℕ → Bool
  member_names i = eqb (i % 2) 0

  -- action and kind of a point
  unfoldable pub point_names : ℕ → Bool
  point_names i = within 4 5 (i % 12)

  -- action and kind of a Predicate
  unfoldable pub node_names : ℕ → Bool
  node_names i = within 3 4 (i % 8) and eqb (node_word s (i / 8) 0) 7

-- a byte a list word: 0 does not name a string, anything else names one
unfoldable pub marked : List ℕ → ℕ → Bool
marked marks i = not (eqb (get_or marks i 0) 0)

module _ (s marks : List ℕ) where
  -- does word i of body k name a string?
  unfoldable pub names : ℕ → ℕ → Bool
  names k i =
      pick (false ∷ value_names s i ∷ member_names s i ∷ point_names s i ∷ node_names s i ∷ marked marks i ∷ []) k false

  -- word i of body k as it was, or a string's new number
  unfoldable pub renamed : ℕ → ℕ → ℕ
  renamed k i = choose (names k i) (number s (body_word s k i)) (body_word s k i)

  unfoldable pub table : ℕ → List ℕ
  table k = packed (map (renamed k) (places 0 1 (size s k / 4)))

  unfoldable pub tables : List (List ℕ)
  tables = table 1 ∷ table 2 ∷ table 3 ∷ table 4 ∷ table 5 ∷ []

  -- strings end to end from 0 that fill text, the other tables renamed
  unfoldable pub parts : List (List ℕ)
  parts = packed (placed 0 (texts s)) ∷ tables ++ (flat (texts s) ∷ [])

  -- V kept, contents to fit
  unfoldable pub finished : List ℕ
  finished = encoded (vars s) parts
