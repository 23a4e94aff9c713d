-- Texts in order: a table of string numbers, and the texts that its first entries name
use Rattle.std.specs.Prelude.{◌≡◌, ℕ, ◌+◌, ◌<◌, ◌≤◌, Bool, not, ltb, List, [], map, length, get_or, take, nat_lt, slice_index, slice_index_or, Option, Some, None}
use Rattle.meaning.specs.Tests.{◌and◌, choose}
use Rattle.meaning.specs.Text.{before}
use Rattle.meaning.specs.Case.{text}
use Rattle.encode.specs.Join.{below}
use Rattle.encode.specs.Unsorted.{texts}
use Rattle.encode.proofs.Laws.Join.{Rising}

-- the lesser of two
pub record Least (a b r : ℕ) : Type 0 where
  pub is : r ≡ choose (nat_lt a b) a b
  pub low : r ≤ a
  pub high : r ≤ b

-- a string's bytes, as many as 32 bits can count
pub record Cut (s : List ℕ) (n : ℕ) (r : List ℕ) : Type 0 where
  pub is : r ≡ text s n
  pub few : length r ≤ 4294967295

-- the texts of the first n entries
unfoldable pub listed : List ℕ → List ℕ → ℕ → List (List ℕ)
listed s order n = map (text s) (take n order)

-- they stand in the table, and each is before all that follow
pub record InOrder (s order : List ℕ) (n : ℕ) : Type 0 where
  pub fits : n ≤ length order
  pub rises : Rising (listed s order n)

-- the place of x among n texts: how many are before it
pub record Place (x : List ℕ) (l : List (List ℕ)) (n r : ℕ) : Type 0 where
  pub is : r ≡ below x l
  pub inside : r ≤ n

-- does one stand at place p of n that x is not before?
pub record Stands (x : List ℕ) (l : List (List ℕ)) (n p : ℕ) (r : Bool) : Type 0 where
  pub is : r ≡ (ltb p n and not (before x (slice_index_or l p [])))

-- so many entries name these texts, or there are more texts than entries
abbrev pub Holds : List ℕ → List ℕ → List (List ℕ) → Option ℕ → Type 0
Holds s order l (Some m) = (m ≤ length order) × (listed s order m ≡ l)
Holds s order l None = length order < length l

pub record Joins (s order : List ℕ) (l : List (List ℕ)) (r : Option ℕ) : Type 0 where
  pub is : Holds s order l r

-- all strings, joined
pub record Sorted (s order : List ℕ) (n : ℕ) : Type 0 where
  pub fits : n ≤ length order
  pub is : listed s order n ≡ texts s

-- the entries from `at` on, up to n, have moved up by so many; all others are as they were
pub record Moved (at n by : ℕ) (old new : List ℕ) : Type 0 where
  pub long : length new ≡ length old
  pub lower : (k : ℕ) → k < at + by → slice_index new k ≡ slice_index old k
  pub moved : (k : ℕ) → at ≤ k → k < n → slice_index new (k + by) ≡ slice_index old k
  pub above : (k : ℕ) → n + by ≤ k → slice_index new k ≡ slice_index old k

-- k stands at place p, and what stood there has moved one up
pub record Put (p n k : ℕ) (old new : List ℕ) : Type 0 where
  pub long : length new ≡ length old
  pub lower : (i : ℕ) → i < p → slice_index new i ≡ slice_index old i
  pub here : get_or new p 0 ≡ k
  pub upper : (i : ℕ) → p ≤ i → i < n → slice_index new (i + 1) ≡ slice_index old i
