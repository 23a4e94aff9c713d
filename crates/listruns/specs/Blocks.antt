-- The local tables that the rules of points and nodes are read from: marks of strings and values, and the lists by blocks
use Rattle.std.specs.Prelude.{◌≡◌, Bool, true, false, List, ℕ, ◌+◌, ◌*◌, ◌/◌, ◌%◌, ◌<◌, ◌≤◌, get_or}
use Rattle.meaning.specs.Tests.{all_below, greatest}
use Rattle.meaning.specs.Text.{free}
use Rattle.meaning.specs.Case.{strings, values, lists, list, text}
use Rattle.meaning.specs.Check.{path_name, entity_item, literal}
use Rattle.laws.specs.Tests.{Filled}

-- the strings without a dot
abbrev pub Undotted : List ℕ → List Bool → Type 0
Undotted s table = Filled false (λ n. free 46 (text s n)) table (strings s)

-- the strings without a quotation mark
abbrev pub Unquoted : List ℕ → List Bool → Type 0
Unquoted s table = Filled false (λ n. free 34 (text s n)) table (strings s)

-- the values without Null or Object
abbrev pub Literals : List ℕ → List Bool → Type 0
Literals s table = Filled false (literal s) table (values s)

-- the greatest word of each block
abbrev pub Tops : List ℕ → List ℕ → Type 0
Tops s table = Filled 0 (λ b. greatest 1024 (λ j. list s (1024 * b + j))) table (lists s / 1024)

-- names of paths that begin at word i go on up to e: the first word from there on that is none, or the lists' end
pub record Names (s : List ℕ) (i e : ℕ) : Type 0 where
  pub low : i ≤ e
  pub high : e ≤ lists s
  pub names : (k : ℕ) → i ≤ k → k < e → path_name s k ≡ true
  pub ends : e < lists s → path_name s e ≡ false

-- how far they go on from the start of each block of 128 words
pub record Paths (s table : List ℕ) : Type 0 where
  pub from : (b : ℕ) → 128 * b < lists s → Names s (128 * b) (get_or table b 0)

-- a block of 512 items of three words, that starts at a word of each remainder of 3
abbrev pub block_start : ℕ → ℕ
block_start k = 1536 * (k / 3) + k % 3

-- the blocks of entities that may stand in a run
abbrev pub Entities : List ℕ → List Bool → Type 0
Entities s table = Filled false (λ k. all_below 512 (entity_item s (block_start k))) table (3 * (lists s / 1536))
