-- The bytes that a string stands for, one after another
use Rattle.std.specs.Prelude.{◌≡◌, Bool, List, [], ◌∷◌, ◌++◌, ℕ, zero, suc, ◌+◌, ◌*◌, ◌-◌, ◌/◌, ◌%◌, ◌<◌, ◌≤◌, ltb, length, drop, Option, Some, None}
use Rattle.meaning.specs.Tests.{choose}
use Rattle.meaning.specs.Equal.{same_list}
use Rattle.meaning.specs.declared.Due.{Due}
use Rattle.jsontext.specs.Reading.{got}
use Rattle.jsontext.specs.Strings.{utf8_of, chars, string}
use Rattle.jsonread.specs.declared.names.Cursor.{Cursor}
use Rattle.std.specs.declared.cmp.Ordering.{Ordering}
use Rattle.std.specs.declared.cmp.Ordering.TheVariants.{Less, Equal, Greater}

-- the last bytes of a character in UTF-8, so many
unfoldable pub last_of : ℕ → ℕ → List ℕ
last_of u zero = []
last_of u (suc zero) = (128 + u % 64) ∷ []
last_of u (suc (suc zero)) = (128 + u / 64 % 64) ∷ (128 + u % 64) ∷ []
last_of u (suc (suc (suc k))) = (128 + u / 4096 % 64) ∷ (128 + u / 64 % 64) ∷ (128 + u % 64) ∷ []

-- the first byte of a character, with the others left
pub record Begins (u at : ℕ) (r : ℕ × Cursor) : Type 0 where
  pub byte : ℕ
  pub left : ℕ
  pub few : left ≤ 3
  pub is : r ≡ (byte, record { at = at; character = u; left = left })
  pub bytes : utf8_of u ≡ byte ∷ last_of u left

-- these bytes are left to give
pub record Spelt (line : List ℕ) (c : Cursor) (bytes : List ℕ) : Type 0 where
  pub turns : ℕ
  pub due : Due
  pub text : List ℕ
  pub rest : List ℕ
  pub few : c.left ≤ 3
  pub is : chars turns due (drop c.at line) ≡ got text rest
  pub all : bytes ≡ last_of c.character c.left ++ text

pub record Yielded (line : List ℕ) (n : Cursor) (b : ℕ) (bytes : List ℕ) : Type 0 where
  pub others : List ℕ
  pub is : bytes ≡ b ∷ others
  pub spelt : Spelt line n others

pub record NextTold (line : List ℕ) (c : Cursor) (r : Option (ℕ × Cursor)) : Type 0 where
  pub less : (b : ℕ) (n : Cursor) → r ≡ Some (b, n) → 4 * (length line - n.at) + n.left < 4 * (length line - c.at) + c.left
  pub ended : r ≡ None → (bytes : List ℕ) → Spelt line c bytes → bytes ≡ []
  pub yields : (b : ℕ) (n : Cursor) → r ≡ Some (b, n) → (bytes : List ℕ) → Spelt line c bytes → Yielded line n b bytes

-- byte order, a prefix first
unfoldable pub order_of : List ℕ → List ℕ → Ordering
order_of [] [] = Equal
order_of [] (b ∷ t) = Less
order_of (a ∷ s) [] = Greater
order_of (a ∷ s) (b ∷ t) = choose (ltb a b) Less (choose (ltb b a) Greater (order_of s t))

-- of two strings that read well: their order
abbrev pub OrderTold : List ℕ → ℕ → ℕ → Ordering → Type 0
OrderTold line a b r = (m n s t : List ℕ) → string (drop a line) ≡ got m s → string (drop b line) ≡ got n t → r ≡ order_of m n

-- of a string that reads well: it is this word
abbrev pub WordTold : List ℕ → ℕ → List ℕ → Bool → Type 0
WordTold line at word r = (n rest : List ℕ) → string (drop at line) ≡ got n rest → r ≡ same_list n word

-- what is left to match, and what is left to compare, tells of the whole
pub record MatchIs (line n word : List ℕ) (x : Cursor) (i : ℕ) : Type 0 where
  pub bytes : List ℕ
  pub spelt : Spelt line x bytes
  pub is : same_list n word ≡ same_list bytes (drop i word)

pub record Matching (line : List ℕ) (at : ℕ) (word : List ℕ) (x : Cursor) (i : ℕ) : Type 0 where
  pub within : i ≤ length word
  pub goes : (n rest : List ℕ) → string (drop at line) ≡ got n rest → MatchIs line n word x i

pub record CompareIs (line m n : List ℕ) (x y : Cursor) : Type 0 where
  pub left : List ℕ
  pub right : List ℕ
  pub spelt-left : Spelt line x left
  pub spelt-right : Spelt line y right
  pub is : order_of m n ≡ order_of left right

pub record Comparing (line : List ℕ) (a b : ℕ) (x y : Cursor) : Type 0 where
  pub goes : (m n s t : List ℕ) → string (drop a line) ≡ got m s → string (drop b line) ≡ got n t → CompareIs line m n x y

-- from a byte of the line on
abbrev pub plainly : ℕ → Cursor
plainly i = record { at = i; character = 0; left = 0 }

-- so many bytes of two strings are the same and stand for themselves, the quotation marks among them
pub record Alike (line : List ℕ) (a b k : ℕ) : Type 0 where
  pub left : a + k ≤ length line + 1
  pub right : b + k ≤ length line + 1
  pub is : Comparing line a b (plainly (a + k)) (plainly (b + k))

-- so many bytes of a word stand in a string as they are
pub record Fitting (line : List ℕ) (at : ℕ) (word : List ℕ) (i : ℕ) : Type 0 where
  pub within : at + 1 + i ≤ length line + 1
  pub is : Matching line at word (plainly (at + 1 + i)) i
