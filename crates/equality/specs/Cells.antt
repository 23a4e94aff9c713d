-- What two cells stand for, as a value, and cells that say it in one way
use Rattle.std.specs.Prelude.{◌≡◌, List, ℕ, ◌≤◌, min}
use Rattle.std.proofs.Math.Option.{Option, none, some}
use Rattle.meaning.specs.Case.{Case, Value, case_of, value_word}
use Rattle.meaning.specs.Equal.{Bound, as_value}
use Rattle.meaning.specs.Rows.{in_cells}

unfoldable pub value_in : Case → Option Bound → Option Value
value_in c none = none
value_in c (some b) = some (as_value c b)

-- cells tag, bits say what t, u say; a value's number is never an Int's or a String's
pub record Settled (s : List ℕ) (t u tag bits : ℕ) : Type 0 where
  pub is : value_in (case_of s) (in_cells tag bits) ≡ value_in (case_of s) (in_cells t u)
  pub few : tag ≤ 3
  pub no_int : tag ≡ 2 → value_word s (min 4294967295 bits) 0 ≡ 2 → ⊥
  pub no_text : tag ≡ 2 → value_word s (min 4294967295 bits) 0 ≡ 4 → ⊥
