-- From what import and export of a JSON log say to what a caller in C sees
use mathlib.Core.Path.{◌≡◌, sym}
use mathlib.Core.List.{List, [], ◌∷◌, ◌++◌}
use Prim.Native.Nat.{ℕ, ◌<◌, ◌≤◌}
use lib.ListN.{length, drop}
use borrow.Author.Tests.{lt-ltb, le-ltb}
use Rattle.laws.specs.Tests.{yes, no}
use Rattle.jsontrace.specs.Import.{Imported, import_number}
use Rattle.jsontrace.specs.Export.{Exported, export_number}
use Rattle.jsonwrite.specs.Import.{Imports}
use Rattle.jsonexport.specs.Call.{Exports}
use Rattle.telling.specs.Seen.{too_few, seen, import_cells, import_seen_as, import_told_as, import_seen, ImportTells, export_cell, export_told_as, export_seen, ExportTells}

module _ (text work trace marks lent : List ℕ) where
  pub unimported : length lent < 4 → ImportTells text work trace marks lent (import_seen_as too_few work trace marks lent)
  unfolding import_seen
  unimported h = record { is = sym (yes _ (lt-ltb (length lent) 4 h)) }

pub import_told : {text work work' trace trace' marks marks' lent told : List ℕ} {said : Imported} {k : ℕ} → 4 ≤ length lent → Imports text work work' trace trace' marks marks' said → (k ≡ import_number said) × (told ≡ import_cells said ++ drop 4 lent) → ImportTells text work trace marks lent (import_seen_as k work' trace' marks' told)
unfolding import_seen import_told_as
import_told {lent = lent} h says is = record {
  is = sym (no _ (le-ltb (length lent) 4 h) (sym (rw (← says.is) (cc (is.0, is.1)))));
}

module _ (s output lent : List ℕ) where
  pub unexported : length lent < 1 → ExportTells s output lent (seen too_few [] output lent)
  unfolding export_seen
  unexported h = record { is = sym (yes _ (lt-ltb (length lent) 1 h)) }

pub export_told : {s output output' lent told : List ℕ} {said : Exported} {k : ℕ} → 1 ≤ length lent → Exports s output output' said → (k ≡ export_number said) × (told ≡ export_cell said ∷ drop 1 lent) → ExportTells s output lent (seen k [] output' told)
unfolding export_seen export_told_as
export_told {lent = lent} h says is = record {
  is = sym (no _ (le-ltb (length lent) 1 h) (sym (rw says.is (cc (is.0, is.1)))));
}
