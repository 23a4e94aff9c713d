-- Strings that rise or fall from the first on: their numbers in order are told without a search
use Rattle.std.specs.Prelude.{◌≡◌, ℕ, ◌+◌, ◌-◌, ◌<◌, ◌≤◌, Bool, true, List, length, slice_index}
use Rattle.meaning.specs.Tests.{choose}
use Rattle.meaning.specs.Text.{before}
use Rattle.meaning.specs.Case.{text, strings}
use Rattle.joining.specs.Fresh.{Upto}

-- string k + 1 is before string k, or after it
unfoldable pub onward : List ℕ → Bool → ℕ → Bool
onward s down k = choose down (before (text s (k + 1)) (text s k)) (before (text s k) (text s (k + 1)))

pub record Run (s : List ℕ) (many : ℕ) (down : Bool) (r : ℕ) : Type 0 where
  pub some : 0 < r
  pub few : r ≤ many
  pub on : (k : ℕ) → k + 1 < r → onward s down k ≡ true

-- the first i entries are those of n numbers that rise or fall
pub record Counted (down : Bool) (n i : ℕ) (order : List ℕ) : Type 0 where
  pub low : i ≤ n
  pub fits : n ≤ length order
  pub is : (k : ℕ) → k < i → slice_index order k ≡ choose down (n - 1 - k) k

pub record Begun (s order : List ℕ) (r : ℕ) : Type 0 where
  pub few : r ≤ strings s
  pub upto : Upto s order r r
