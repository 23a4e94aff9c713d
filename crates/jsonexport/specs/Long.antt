-- What the tables of sizes say, and runs of the lists whose words are in them
use Rattle.std.specs.Prelude.{◌≡◌, List, ℕ, ◌+◌, ◌*◌, ◌<◌, eqb, get_or}
use Rattle.meaning.specs.Tests.{choose}
use Rattle.meaning.specs.Case.{nothing, strings, values, list}
use Rattle.meaning.specs.Check.{Checked}
use Rattle.laws.specs.Tests.{Filled}
use Rattle.jsonsizes.specs.Sizes.{string_long, value_long}

pub record Spelled (s : List ℕ) (limit : ℕ) (names : List ℕ) : Type 0 where
  pub checked : Checked s
  pub are : Filled 0 (string_long s limit) names (strings s)

pub record Sized (s : List ℕ) (limit : ℕ) (sizes : List ℕ) : Type 0 where
  pub checked : Checked s
  pub are : Filled 0 (value_long s limit) sizes (values s)

-- none, or in the table
pub record Maybe (n : ℕ) : Type 0 where
  pub there : (n ≡ nothing → ⊥) → n < 16384

-- nothing where there is none
unfoldable pub maybe_long : List ℕ → ℕ → ℕ → ℕ
maybe_long table n fixed = choose (eqb n nothing) 0 (fixed + get_or table n 0)

-- a run of strings, and of entities
pub record Words (s : List ℕ) (first items : ℕ) : Type 0 where
  pub word : (i : ℕ) → i < items → list s (first + i) < strings s

pub record Entity (s : List ℕ) (m : ℕ) : Type 0 where
  pub type : list s m < strings s
  pub id : list s (m + 1) < strings s
  pub object : list s (m + 2) < values s

pub record Entities (s : List ℕ) (first items : ℕ) : Type 0 where
  pub entity : (i : ℕ) → i < items → Entity s (first + 3 * i)
