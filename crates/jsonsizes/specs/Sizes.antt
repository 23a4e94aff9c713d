-- How long a string, a value and an item are, and what tables say of them up to a limit
use Rattle.std.specs.Prelude.{◌≡◌, List, ℕ, zero, suc, ◌+◌, ◌*◌, ◌<◌, ◌≤◌, min, eqb, ltb, length, get_or}
use Rattle.std.proofs.Common.{to_z}
use Rattle.std.specs.Int.{w64}
use Rattle.meaning.specs.Tests.{choose}
use Rattle.meaning.specs.Case.{text, member_word}
use Rattle.meaning.specs.Check.{Checked}
use Rattle.jsontext.specs.Values.{Truth}
use Rattle.jsontrace.specs.Text.{quoted, integer, shown}
use Rattle.jsonput.specs.Values.{value_text, item_text}

abbrev pub string_long : List ℕ → ℕ → ℕ → ℕ
string_long s limit n = min (length (quoted (text s n))) limit

abbrev pub value_long : List ℕ → ℕ → ℕ → ℕ
value_long s limit v = min (length (value_text s v)) limit

-- a member with the comma before it
unfoldable pub item_long : List ℕ → ℕ → ℕ → ℕ
item_long s k m = 1 + length (item_text s k m)

-- so many members
unfoldable pub run_long : List ℕ → ℕ → ℕ → ℕ → ℕ
run_long s k first zero = 0
run_long s k first (suc n) = run_long s k first n + item_long s k (first + n)

-- the brackets, without the comma that the first item does not have
unfoldable pub frame : ℕ → ℕ
frame zero = 2
frame (suc n) = 1

-- null, a truth, an integer
unfoldable pub plain_long : ℕ → ℕ → ℕ → ℕ
plain_long k a b = choose (ltb k 1) 4 (choose (ltb k 2) (length (shown (Truth (eqb a 1)))) (length (integer (to_z w64 (a + 4294967296 * b)))))

-- a value that holds no other, by the table of strings
unfoldable pub leaf_long : List ℕ → ℕ → ℕ → ℕ → ℕ
leaf_long names k a b =
    choose (ltb k 3) (plain_long k a b)
    (choose (ltb k 4) (get_or names a 0 + 34) (choose (ltb k 5) (get_or names a 0) (get_or names a 0 + get_or names b 0 + 28)))

-- the strings that a value's words name are in the table
pub record Named (k a b : ℕ) : Type 0 where
  pub first : 3 ≤ k → a < 16384
  pub second : 5 ≤ k → b < 16384

-- what an item needs is in the tables
pub record Ready (s : List ℕ) (limit : ℕ) (names sizes : List ℕ) (k m : ℕ) : Type 0 where
  pub checked : Checked s
  pub high : k < 8
  pub few : member_word s m 1 < 16384
  pub held : get_or sizes (member_word s m 1) 0 ≡ value_long s limit (member_word s m 1)
  pub name-few : 7 ≤ k → member_word s m 0 < 16384
  pub name : 7 ≤ k → get_or names (member_word s m 0) 0 ≡ string_long s limit (member_word s m 0)

pub record Readies (s : List ℕ) (limit : ℕ) (names sizes : List ℕ) (k at count : ℕ) : Type 0 where
  pub ready : (i : ℕ) → i < count → Ready s limit names sizes k (at + i)

-- a block's entry is 0, or what its items take in a holder of kind k
pub record Sums (s : List ℕ) (limit : ℕ) (sums : List ℕ) : Type 0 where
  pub known : (k b : ℕ) → 6 ≤ k → k < 8 → (get_or sums (2 * b + k) 0 ≡ 0 → ⊥) → get_or sums (2 * b + k) 0 ≡ min (run_long s k (512 * b) 512) limit
