-- 25 as the code asks it: a value's own test, marks of values, and entities by blocks of 512
use Rattle.std.specs.Prelude.{Bool, true, false, not, List, ℕ, ◌+◌, ◌*◌, ◌/◌, ◌%◌, eqb, leb, get_or}
use Rattle.meaning.specs.Tests.{◌and◌, choose, all_below}
use Rattle.meaning.specs.Case.{nothing, lists, list, text, member_word, value_word, point_word}
use Rattle.laws.specs.Tests.{Filled}
use Rattle.jsontrace.specs.Export.{tree_at, form_name, clear}

-- the mark of value v; none beyond the table
unfoldable pub mark_at : List Bool → ℕ → Bool
mark_at marks v = choose (leb 16384 v) false (get_or marks v false)

module _ (s : List ℕ) where
  -- not an object of one member alone that has such a name
  unfoldable pub own_clear : ℕ → Bool
  own_clear v = not (eqb (value_word s v 0) 7 and eqb (value_word s v 2) 1 and form_name (text s (member_word s (value_word s v 1) 0)))

  unfoldable pub clear_at : ℕ → Bool
  clear_at v = clear (tree_at s v)

  -- the object of item i of a run of entities
  unfoldable pub entity_clear : List Bool → ℕ → ℕ → Bool
  entity_clear marks first i = mark_at marks (list s (first + 3 * i + 2))

-- none is clear
unfoldable pub maybe_marked : List Bool → ℕ → Bool
maybe_marked marks v = choose (eqb v nothing) true (mark_at marks v)

-- a block of 512 items of three words, that starts at a word of each remainder of 3
abbrev pub block_start : ℕ → ℕ
block_start k = 1536 * (k / 3) + k % 3

-- which blocks are clear
pub record Entities (s : List ℕ) (marks blocks : List Bool) : Type 0 where
  pub are : Filled false (λ k. all_below 512 (entity_clear s marks (block_start k))) blocks (3 * (lists s / 1536))

unfoldable pub fields_clear : List ℕ → List Bool → ℕ → Bool
fields_clear s marks p =
    (mark_at marks (point_word s p 6) and mark_at marks (point_word s p 7))
    and (maybe_marked marks (point_word s p 8) and maybe_marked marks (point_word s p 9))
