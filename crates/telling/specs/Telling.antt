-- What is told of a call before it is written: the number to return, and four cells
use Rattle.std.specs.Prelude.{◌≡◌, List, [], ◌∷◌, ℕ, Result, Ok, Err}
use Rattle.meaning.specs.Calls.{Said, number_of}
use Rattle.meaning.specs.declared.Refusal.{Refusal}
use Rattle.telling.specs.declared.Telling.{Telling as Told}
use Rattle.telling.specs.Seen.{said_number, told_cells}

abbrev pub cells_of : Told → List ℕ
cells_of t = t.answer ∷ t.steps ∷ t.most ∷ t.fourth ∷ []

abbrev pub refusing : ℕ → ℕ → ℕ → Told
refusing n steps most = record { number = n; answer = 0; steps = steps; most = most; fourth = 0 }

-- as it was said, by the call's own two cells
pub record Telling {A : Type 0} (cell fourth : A → ℕ) (said : Said A) (t : Told) : Type 0 where
  pub number : t.number ≡ said_number said
  pub cells : cells_of t ≡ told_cells cell fourth said

-- ---- the writer

-- 0 where bytes were written, or the refusal's number
unfoldable pub written_number : Result ℕ Refusal → ℕ
written_number (Ok size) = 0
written_number (Err r) = number_of r

-- how many bytes were written
unfoldable pub written_cell : Result ℕ Refusal → ℕ
written_cell (Ok size) = size
written_cell (Err r) = 0
