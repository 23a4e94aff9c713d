-- Members by blocks of 512: what is kept of a block, so that runs which overlap are not read again and again
use Rattle.std.specs.Prelude.{◌≡◌, Bool, true, false, List, ℕ, ◌+◌, ◌*◌, ◌<◌, eqb, ltb, get_or}
use Rattle.meaning.specs.Tests.{◌and◌, choose, all_below, rises, greatest}
use Rattle.meaning.specs.Case.{nothing, member_word}
use Rattle.meaning.specs.Check.{is_string, depth}

-- the greatest value that a block holds, or more than any where one of its members has a name
unfoldable pub top_of : List ℕ → ℕ → ℕ
top_of s at = choose (all_below 512 (λ i. eqb (member_word s (at + i) 0) nothing)) (greatest 512 (λ i. member_word s (at + i) 1)) nothing

-- the rule of an object's item, but for what it holds: its name is a string, after the one before it
unfoldable pub object_name : List ℕ → ℕ → ℕ → Bool
object_name s first i = is_string s (member_word s (first + i) 0) and rises (λ i j. ltb (member_word s (first + i) 0) (member_word s (first + j) 0)) i

-- the same of a block of an object, from its start on
unfoldable pub object_top : List ℕ → ℕ → ℕ
object_top s at = choose (all_below 512 (object_name s at)) (greatest 512 (λ i. member_word s (at + i) 1)) nothing

-- what so many members hold lies below v
pub record Lower (s : List ℕ) (v at count : ℕ) : Type 0 where
  pub lower : (i : ℕ) → i < count → member_word s (at + i) 1 < v

-- a block's entry is 0, or the greatest depth of what it holds
pub record Depths (s blocks : List ℕ) : Type 0 where
  pub known : (b : ℕ) → (get_or blocks b 0 ≡ 0 → ⊥) → get_or blocks b 0 ≡ greatest 512 (λ j. depth s (member_word s (512 * b + j) 1))

-- where a block's entry is set, all that it holds is below v and marked
pub record Marked (s : List ℕ) (marks : List Bool) (v : ℕ) (blocks : List Bool) : Type 0 where
  pub held : (b : ℕ) → get_or blocks b false ≡ true → (j : ℕ) → j < 512 → (member_word s (512 * b + j) 1 < v) × (get_or marks (member_word s (512 * b + j) 1) false ≡ true)
