-- The arguments of a Predicate, path run and term, by blocks of 128
use Rattle.std.specs.Prelude.{Bool, List, ℕ, ◌+◌, ◌*◌, ◌/◌, ◌%◌, ◌<◌, leb}
use Rattle.meaning.specs.Tests.{◌and◌, choose, all_below, within, greatest}
use Rattle.meaning.specs.Case.{nothing, lists, list, node_word}
use Rattle.meaning.specs.Check.{path_run}
use Rattle.laws.specs.Tests.{Filled}

-- so many terms have numbers below n
pub record Terms (s : List ℕ) (n first count : ℕ) : Type 0 where
  pub low : (i : ℕ) → i < count → list s (first + 3 * i + 2) < n

-- the rule of the argument at word i, but for its term's number
unfoldable pub argument_own : List ℕ → ℕ → Bool
argument_own s i = (leb 1 (list s (i + 1)) and path_run s (list s i) (list s (i + 1))) and within 20 24 (node_word s (list s (i + 2)) 0)

-- the greatest term of a block, or more than any where one of its arguments breaks its own rule
unfoldable pub argument_top : List ℕ → ℕ → ℕ
argument_top s at = choose (all_below 128 (λ j. argument_own s (at + 3 * j))) (greatest 128 (λ j. list s (at + 3 * j + 2))) nothing

-- a block of 128 arguments of three words, that starts at a word of each remainder of 3
abbrev pub argument_start : ℕ → ℕ
argument_start k = 384 * (k / 3) + k % 3

abbrev pub ArgumentTops : List ℕ → List ℕ → Type 0
ArgumentTops s table = Filled 0 (λ k. argument_top s (argument_start k)) table (3 * (lists s / 384))
