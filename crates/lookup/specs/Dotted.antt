-- Names with dots: the names that are left, a text that joins some of them, the string behind a name, and a table of what led nowhere
use Rattle.std.specs.Prelude.{◌≡◌, Bool, true, false, not, List, [], ◌∷◌, map, ℕ, zero, suc, ◌+◌, ◌*◌, ◌-◌, ◌<◌, ◌≤◌, eqb, ltb, leb, length, get_or, drop, Option as Maybe, None}
use Rattle.std.proofs.Math.Option.{none}
use Rattle.meaning.specs.declared.Run.{Run}
use Rattle.meaning.specs.declared.ValNo.{ValNo}
use Rattle.meaning.specs.Tests.{◌and◌, choose}
use Rattle.meaning.specs.Case.{Case, strings, list, text, places, part_at, value_at, case_of}
use Rattle.meaning.specs.Check.{Checked}
use Rattle.meaning.specs.Look.{members}
use Rattle.laws.specs.Search.{search}
use Rattle.lookup.specs.declared.After.{After}
use Rattle.lookup.specs.declared.After.TheVariants.{End, Dot, Other}
use Rattle.lookup.specs.declared.Span.{Span}
use Rattle.lookup.specs.Paths.{found_at}

-- the path's names from one on
abbrev pub rest : List ℕ → Run → ℕ → List ℕ
rest s path from = map (list s) (places (path.first + from) 1 (path.count - from))

-- ---- a text that joins names by dots

unfoldable pub begins : List ℕ → List ℕ → Bool
begins [] t = true
begins (x ∷ name) [] = false
begins (x ∷ name) (y ∷ t) = eqb y x and begins name t

-- one name more, where there is any
unfoldable pub more : ℕ → ℕ
more zero = zero
more (suc k) = suc (suc k)

-- so many names ahead of some, where there are any
unfoldable pub ahead : ℕ → ℕ → ℕ
ahead k zero = zero
ahead k (suc j) = k + suc j

-- behind a name: nothing, or a dot and what joins the names that follow
unfoldable pub behind_name : (List ℕ → ℕ) → List ℕ → ℕ
behind_name of [] = 1
behind_name of (b ∷ t) = choose (eqb b 46) (more (of t)) 0

unfoldable pub from_name : (List ℕ → ℕ) → List ℕ → List ℕ → ℕ
from_name of name t = choose (begins name t) (behind_name of (drop (length name) t)) 0

-- how many of the names, from the first on, a text joins; 0 where it joins none
unfoldable pub joins : Case → List ℕ → List ℕ → ℕ
joins c t [] = 0
joins c t (n ∷ ns) = from_name (λ r. joins c r ns) (c.text n) t

-- what the code says of a name that stands in t
unfoldable pub counted : (List ℕ → ℕ) → List ℕ → After → ℕ
counted of t End = 1
counted of t (Dot next) = more (of (drop next t))
counted of t Other = 0

-- a name from byte `at` of t on, and what is behind it
pub record Behind (t : List ℕ) (at : ℕ) (name : List ℕ) (r : After) : Type 0 where
  pub is : (of : List ℕ → ℕ) → from_name of name (drop at t) ≡ counted of t r
  pub inside : (next : ℕ) → r ≡ Dot next → next ≤ length t

-- ---- strings that begin with a name and a dot stand behind the name

-- t begins with the name, and goes on with a byte that is no greater than the dot
unfoldable pub goes_on : List ℕ → List ℕ → Bool
goes_on [] [] = false
goes_on [] (b ∷ t) = leb b 46
goes_on (x ∷ name) [] = false
goes_on (x ∷ name) (y ∷ t) = eqb y x and goes_on name t

unfoldable pub may_join : List ℕ → ℕ → Bool
may_join s n = ltb (n + 1) (strings s) and goes_on (text s n) (text s (n + 1))

-- no string joins one of the names with the next
unfoldable pub plain_names : List ℕ → List ℕ → Bool
plain_names s [] = true
plain_names s (n ∷ []) = true
plain_names s (n ∷ m ∷ ns) = not (may_join s n) and plain_names s (m ∷ ns)

-- ---- the table

-- value v with the path's names from i on
abbrev pub key_of : ℕ → ℕ → ℕ
key_of v i = 1 + i + 4294967296 * v

-- what is kept led nowhere
pub record Failed (s : List ℕ) (path : Run) (t : List ℕ) : Type 0 where
  pub size : length t ≡ 3989
  pub nowhere : (j v i : ℕ) → i < 4294967296 → get_or t j 0 ≡ key_of v i → search (case_of s) v (rest s path i) ≡ none

-- a search by the names from `from` on, some of which are left, may begin
pub record Ready (s : List ℕ) (path : Run) (t : List ℕ) (from : ℕ) : Type 0 where
  pub checked : Checked s
  pub kept : Failed s path t
  pub left : from < path.count

-- the members of value v stand from `first` on before `end`
pub record Spans (s : List ℕ) (v : ℕ) (r : Span) : Type 0 where
  pub low : r.first ≤ r.end
  pub all : members (value_at s v) ≡ map (part_at s) (places r.first 1 (r.end - r.first))

-- v was searched by the names from `from` on
pub record Sought (s : List ℕ) (path : Run) (t : List ℕ) (v from : ℕ) (r : Maybe ValNo) : Type 0 where
  pub kept : Failed s path t
  pub found : found_at r ≡ search (case_of s) v (rest s path from)

-- v leads nowhere by them
abbrev pub Missed : List ℕ → Run → List ℕ → ℕ → ℕ → Type 0
Missed s path t v from = Sought s path t v from None
