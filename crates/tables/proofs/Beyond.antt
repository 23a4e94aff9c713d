-- A list's words beyond its end are 0
use mathlib.Core.Path.{◌≡◌, sym}
use mathlib.Core.List.{List}
use Prim.Native.Nat.{ℕ, ◌+◌, ◌*◌, ◌/◌, ◌≤◌}
use native.Mathlib.Omega.{arith}
use lib.ListN.{length, get_or}
use Rattle.meaning.specs.Case.{words}
use Rattle.laws.specs.Words.{words-beyond}

pub no_word : (s : List ℕ) (i : ℕ) → length s / 4 ≤ i → 0 ≡ get_or (words s) i 0
no_word s i h = sym (words-beyond s i (omega arith))

pub no_cell : (s : List ℕ) (i : ℕ) → length s / 4 ≤ i → 0 ≡ get_or (words s) i 0 + 4294967296 * get_or (words s) (i + 1) 0
no_cell s i h = omega (arith, words-beyond s i (omega arith), words-beyond s (i + 1) (omega arith))
