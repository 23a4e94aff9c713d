-- What is told of the writer, once it is known which way it was said
use mathlib.Core.Path.{◌≡◌, refl}
use mathlib.Core.List.{List, [], ◌∷◌}
use Prim.Native.Nat.{ℕ, ◌≤◌}
use native.Mathlib.Omega.{arith}
use lib.ListN.{length, drop, set}
use Rattle.meaning.specs.declared.Refusal.{Refusal}
use Rattle.meaning.specs.Calls.{number_of}
use Rattle.std.specs.Prelude.{Result, Ok, Err}
use Rattle.telling.specs.Telling.{written_number, written_cell}

pub first : (a : ℕ) (s : List ℕ) → 1 ≤ length s → set s 0 a ≡ a ∷ drop 1 s
first a [] h = absurd (omega (arith, h))
first a (x ∷ s) h = refl

module _ {said : Result ℕ Refusal} {size : ℕ} (e : said ≡ Ok size) where
  pub number-wrote : 0 ≡ written_number said
  unfolding written_number
  number-wrote = rw e refl

  pub cell-wrote : (lent : List ℕ) → 1 ≤ length lent → set lent 0 size ≡ written_cell said ∷ drop 1 lent
  unfolding written_cell
  cell-wrote lent long = rw e (first size lent long)

module _ {said : Result ℕ Refusal} {refusal : Refusal} (e : said ≡ Err refusal) where
  pub number-refused : {n : ℕ} → n ≡ number_of refusal → n ≡ written_number said
  unfolding written_number
  number-refused q = rw e q

  pub cell-refused : (lent : List ℕ) → 1 ≤ length lent → set lent 0 0 ≡ written_cell said ∷ drop 1 lent
  unfolding written_cell
  cell-refused lent long = rw e (first 0 lent long)
