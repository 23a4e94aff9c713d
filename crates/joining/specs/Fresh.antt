-- Fresh texts, not yet put between those in order: each is new there, and has its place
use Rattle.std.specs.Prelude.{◌≡◌, ℕ, ◌+◌, ◌<◌, ◌≤◌, true, List, [], ◌∷◌, length, slice_index, slice_index_or, Option, Some, None}
use Rattle.meaning.specs.Text.{before}
use Rattle.meaning.specs.Case.{text, strings}
use Rattle.laws.specs.Lists.{Every}
use Rattle.encode.specs.Join.{insert_new, below, joined}
use Rattle.joining.specs.Order.{listed, InOrder}

-- all of xs among l, the last first
unfoldable pub insert_all : List (List ℕ) → List (List ℕ) → List (List ℕ)
insert_all [] l = l
insert_all (x ∷ xs) l = insert_new x (insert_all xs l)

-- x is not the text at its place
abbrev pub New : List ℕ → List (List ℕ) → Type 0
New x l = below x l < length l → before x (slice_index_or l (below x l) []) ≡ true

-- m fresh texts beside the n in order; there is room for all of them
pub record Fresh (s order : List ℕ) (n : ℕ) (fresh places : List ℕ) (m : ℕ) : Type 0 where
  pub sorted : InOrder s order n
  pub rises : InOrder s fresh m
  pub long : length places ≡ length fresh
  pub room : n + m ≤ length order
  pub new : Every (λ y. New y (listed s order n)) (listed s fresh m)
  pub placed : (i : ℕ) → i < m → slice_index places i ≡ below (text s (slice_index fresh i)) (listed s order n)

-- both together
abbrev pub together : List ℕ → List ℕ → ℕ → List ℕ → ℕ → List (List ℕ)
together s order n fresh m = insert_all (listed s fresh m) (listed s order n)

-- the place of the fresh one before the q-th
pub record Floor (places : List ℕ) (q r : ℕ) : Type 0 where
  pub none : q ≡ 0 → r ≡ 0
  pub some : (i : ℕ) → q ≡ i + 1 → r ≡ slice_index places i

-- the place of the q-th fresh one; where there is none, the end
pub record Roof (places : List ℕ) (m n q r : ℕ) : Type 0 where
  pub none : m ≤ q → r ≡ n
  pub some : q < m → r ≡ slice_index places q

-- the place of x in order lies between those of its neighbours, were it the q-th fresh one
pub record Beside (s order : List ℕ) (n : ℕ) (places : List ℕ) (m q : ℕ) (x : List ℕ) : Type 0 where
  pub under : (i : ℕ) → q ≡ i + 1 → slice_index places i ≤ below x (listed s order n)
  pub over : q < m → below x (listed s order n) ≤ slice_index places q
  pub inside : q < m → slice_index places q ≤ n

-- so many fresh ones make, with those in order, these texts; or there is no room for them
abbrev pub Kept : List ℕ → List ℕ → ℕ → List ℕ → List ℕ → List (List ℕ) → Option ℕ → Type 0
Kept s order n fresh places l (Some m) = Fresh s order n fresh places m × (together s order n fresh m ≡ l)
Kept s order n fresh places l None = length order < length l

pub record Keeps (s order : List ℕ) (n : ℕ) (fresh places : List ℕ) (l : List (List ℕ)) (r : Option ℕ) : Type 0 where
  pub is : Kept s order n fresh places l r

-- the first k strings are joined, or there is no room for all
abbrev pub Reached : List ℕ → List ℕ → ℕ → List ℕ → List ℕ → ℕ → Option (ℕ × ℕ) → Type 0
Reached s order n fresh places from (Some (k, m)) =
    (from < k) × ((k ≤ strings s) × (Fresh s order n fresh places m × (together s order n fresh m ≡ joined (text s) k)))
Reached s order n fresh places from None = length order < length (joined (text s) (strings s))

pub record Reaches (s order : List ℕ) (n : ℕ) (fresh places : List ℕ) (from : ℕ) (r : Option (ℕ × ℕ)) : Type 0 where
  pub is : Reached s order n fresh places from r

-- m fresh entries that may go between the n in order: there is room, and places never fall, up to n
pub record Ready (order : List ℕ) (n : ℕ) (fresh places : List ℕ) (m : ℕ) : Type 0 where
  pub room : n + m ≤ length order
  pub fits : m ≤ length fresh
  pub long : m ≤ length places
  pub rises : (i j : ℕ) → i ≤ j → j < m → slice_index places i ≤ slice_index places j
  pub inside : (i : ℕ) → i < m → slice_index places i ≤ n

-- whatever the file: the fresh ones stand between the others
pub record Merged (old : List ℕ) (n : ℕ) (fresh places : List ℕ) (m : ℕ) (order : List ℕ) : Type 0 where
  pub room : n + m ≤ length order
  pub is : (s : List ℕ) → Fresh s old n fresh places m → listed s order (n + m) ≡ together s old n fresh m

-- the first k strings, joined
pub record Upto (s order : List ℕ) (n k : ℕ) : Type 0 where
  pub fits : n ≤ length order
  pub is : listed s order n ≡ joined (text s) k
