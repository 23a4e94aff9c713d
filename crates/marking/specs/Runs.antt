-- Runs of the lists by what is asked of each item: of a word whether it is marked or not, of three words whether they are an entity or an argument
use Rattle.std.specs.Prelude.{◌≡◌, Bool, true, false, not, List, ℕ, ◌+◌, ◌*◌, ◌/◌, ◌%◌, ◌≤◌, eqb, ltb, length, get_or, set}
use Rattle.meaning.specs.Tests.{◌and◌, choose, all_below}
use Rattle.encode.specs.Unsorted.{marked}
use Rattle.encode.specs.Write.{entity_marks, argument_marks}

-- a word that names a string is marked, another is not
unfoldable pub word : List ℕ → Bool → ℕ → Bool
word marks true i = marked marks i
word marks false i = not (marked marks i)

-- an entity's type and id name strings, an argument's path run does not; the third word never does
unfoldable pub own_words : List ℕ → Bool → ℕ → Bool
own_words marks names i = (word marks names i and word marks names (i + 1)) and word marks false (i + 2)

-- word i of a run
unfoldable pub word_of : List ℕ → Bool → ℕ → ℕ → Bool
word_of marks names first i = word marks names (first + i)

-- three words, as an argument or as an entity
unfoldable pub item : List ℕ → List ℕ → Bool → ℕ → Bool
item f marks true i = argument_marks f marks i
item f marks false i = entity_marks marks i

-- item i of a run
unfoldable pub item_of : List ℕ → List ℕ → Bool → ℕ → ℕ → Bool
item_of f marks argument first i = item f marks argument (first + 3 * i)

-- the word at which item i of a run starts
pub record ItemPlace (first i at : ℕ) : Type 0 where
  pub is : at ≡ first + 3 * i
  pub low : at ≤ 17179869184

-- ---- stretches that pass, known ahead: entry b of a table is for word 128 · b

-- how many items from a word on are known to pass
unfoldable pub known : List ℕ → ℕ → ℕ
known table at = choose (eqb (at % 128) 0 and ltb (at / 128) 8192) (get_or table (at / 128) 0) 0

-- an entry more, if the table has one for word i
unfoldable pub kept : List ℕ → ℕ → ℕ → List ℕ
kept table i items = choose (eqb (i % 128) 0) (set table (i / 128) items) table

-- entry b tells of so many items from word 128 · b on that they pass
pub record Known (test : ℕ → ℕ → Bool) (table : List ℕ) : Type 0 where
  pub long : length table ≡ 8192
  pub at : (b : ℕ) → all_below (get_or table b 0) (test (128 * b)) ≡ true
