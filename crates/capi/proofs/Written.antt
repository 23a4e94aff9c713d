-- From what the writer says to what a caller in C sees
use mathlib.Core.Path.{◌≡◌, refl, sym}
use mathlib.Core.List.{List, ◌∷◌}
use mathlib.Core.Option.{Option, none, some}
use Prim.Native.Nat.{ℕ, ◌<◌, ◌≤◌}
use lib.ListN.{length, drop}
use borrow.Author.Tests.{lt-ltb, le-ltb}
use Rattle.meaning.specs.declared.Refusal.{Refusal}
use Rattle.laws.specs.Tests.{yes, no}
use Rattle.encode.specs.Unsorted.{finished}
use Rattle.encode.specs.Write.{write_refusal}
use Rattle.std.specs.Prelude.{Result}
use Rattle.casewrite.specs.Written.{written_as, Writes}
use Rattle.telling.specs.Seen.{too_few, refusal_number, size_cell, write_seen, WriteTells, seen}
use Rattle.telling.specs.Telling.{written_number, written_cell}

number-as : (size : ℕ) (o : Option Refusal) → written_number (written_as size o) ≡ refusal_number o
unfolding written_number written_as refusal_number
number-as size none = refl
number-as size (some r) = refl

cell_as : (size : ℕ) (o : Option Refusal) → written_cell (written_as size o) ≡ size_cell size o
unfolding written_cell written_as size_cell
cell_as size none = refl
cell_as size (some r) = refl

module _ (s marks room output lent : List ℕ) where
  pub unwritten : length lent < 1 → WriteTells s marks room output lent (seen too_few room output lent)
  unfolding write_seen
  unwritten h = record { is = sym (yes _ (lt-ltb (length lent) 1 h)) }

pub write-told : {s marks room room' output output' lent told : List ℕ} {said : Result ℕ Refusal} {k : ℕ} → 1 ≤ length lent → Writes s marks room room' output output' said → (k ≡ written_number said) × (told ≡ written_cell said ∷ drop 1 lent) → WriteTells s marks room output lent (seen k room' output' told)
unfolding write_seen
write-told {s} {marks} {room} {output = output} {lent = lent} h says is = record {
  is = sym (no _ (le-ltb (length lent) 1 h) (sym (cc (is.0, is.1, says.is, says.holds, says.gives, number-as (length (finished s marks)) (write_refusal s marks room output), cell_as (length (finished s marks)) (write_refusal s marks room output)))));
}
