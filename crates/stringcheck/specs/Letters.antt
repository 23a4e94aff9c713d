-- Letters of UTF-8: how many bytes the letter at a place has
use Rattle.std.specs.Prelude.{◌≡◌, Bool, List, ℕ, ◌+◌, ◌≤◌, ltb, length, get_or}
use Rattle.meaning.specs.declared.Due.{Due}
use Rattle.meaning.specs.declared.Due.TheVariants.{Nothing, One, Two, Three, AfterE0, AfterEd, AfterF0, AfterF4, Wrong}
use Rattle.meaning.specs.Tests.{◌and◌, choose, within}
use Rattle.meaning.specs.Text.{first}

module _ (t : List ℕ) where
  -- byte i is there and lies from low to high
  unfoldable pub lies_at : ℕ → ℕ → ℕ → Bool
  lies_at i low high = ltb i (length t) and within low high (get_or t i 0)

  -- two bytes follow, three bytes follow, the first of them from low to high
  unfoldable pub two_follow : ℕ → ℕ → ℕ → Bool
  two_follow i low high = lies_at i low high and lies_at (i + 1) 128 191

  unfoldable pub three_follow : ℕ → ℕ → ℕ → Bool
  three_follow i low high = lies_at i low high and two_follow (i + 1) 128 191

  -- by what is due after its first byte, with i the place after that; 0 where a byte is missing or wrong
  unfoldable pub size_after : Due → ℕ → ℕ
  size_after Nothing i = 1
  size_after One i = choose (lies_at i 128 191) 2 0
  size_after Two i = choose (two_follow i 128 191) 3 0
  size_after Three i = choose (three_follow i 128 191) 4 0
  size_after AfterE0 i = choose (two_follow i 160 191) 3 0
  size_after AfterEd i = choose (two_follow i 128 159) 3 0
  size_after AfterF0 i = choose (three_follow i 144 191) 4 0
  size_after AfterF4 i = choose (three_follow i 128 143) 4 0
  size_after Wrong i = 0

  unfoldable pub letter_size : ℕ → ℕ
  letter_size i = size_after (first (get_or t i 0)) (i + 1)

-- the letter at i, and that it is inside
pub record LetterAt (t : List ℕ) (i r : ℕ) : Type 0 where
  pub is : r ≡ letter_size t i
  pub fits : i + r ≤ length t
