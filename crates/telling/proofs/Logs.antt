-- What is told of import and export of a JSON log, once it is known which way they were said
use mathlib.Core.Path.{◌≡◌, refl}
use mathlib.Core.List.{List, [], ◌∷◌, ◌++◌}
use Prim.Native.Nat.{ℕ, ◌≤◌}
use lib.ListN.{length, drop, set}
use Rattle.meaning.specs.declared.Refusal.{Refusal}
use Rattle.meaning.specs.Calls.{number_of}
use Rattle.jsontext.specs.declared.Fault.{Fault}
use Rattle.jsontext.specs.declared.Fault.TheVariants.{NotJson, RepeatedName, BadNumber, BadField, TooDeep}
use Rattle.std.specs.Prelude.{Ok, Err}
use Rattle.jsontext.specs.declared.Bad.{Bad}
use Rattle.jsontrace.specs.declared.ImportError.{ImportError}
use Rattle.jsontrace.specs.declared.ImportError.TheVariants as Imp
use Rattle.jsontrace.specs.declared.ExportError.{ExportError}
use Rattle.jsontrace.specs.declared.ExportError.TheVariants as Exp
use Rattle.jsontrace.specs.Import.{Imported, fault_number, import_number}
use Rattle.jsontrace.specs.Export.{Exported, export_number}
use Rattle.telling.specs.Seen.{import_cells, export_cell}
use Rattle.telling.proofs.Written.{first}

-- ---- a fault's number

module _ {w : Fault} where
  pub number_20 : w ≡ NotJson → 20 ≡ fault_number w
  unfolding fault_number
  number_20 e = rw e refl

  pub number_21 : w ≡ RepeatedName → 21 ≡ fault_number w
  unfolding fault_number
  number_21 e = rw e refl

  pub number_22 : w ≡ BadNumber → 22 ≡ fault_number w
  unfolding fault_number
  number_22 e = rw e refl

  pub number_23 : w ≡ BadField → 23 ≡ fault_number w
  unfolding fault_number
  number_23 e = rw e refl

  pub number_24 : w ≡ TooDeep → 24 ≡ fault_number w
  unfolding fault_number
  number_24 e = rw e refl

-- ---- the import's number and cells

module _ {said : Imported} {bytes marks : ℕ} (e : said ≡ Ok (bytes, marks)) where
  pub number-imported : 0 ≡ import_number said
  unfolding import_number
  number-imported = rw e refl

  pub cells-imported : {rest told : List ℕ} → told ≡ (bytes ∷ marks ∷ 0 ∷ 0 ∷ []) ++ rest → told ≡ import_cells said ++ rest
  unfolding import_cells
  cells-imported cells = rw e cells

module _ {x : ImportError} {bad : Bad} (e : x ≡ Imp.Faulty bad) where
  pub number-faulty : {n : ℕ} → n ≡ fault_number bad.fault → n ≡ import_number (Err x)
  unfolding import_number
  number-faulty q = rw e q

  pub cells-faulty : {rest told : List ℕ} → told ≡ (0 ∷ 0 ∷ bad.at ∷ bad.first ∷ []) ++ rest → told ≡ import_cells (Err x) ++ rest
  unfolding import_cells
  cells-faulty cells = rw e cells

module _ {x : ImportError} {refusal : Refusal} (e : x ≡ Imp.Refused refusal) where
  pub number-no_import : {n : ℕ} → n ≡ number_of refusal → n ≡ import_number (Err x)
  unfolding import_number
  number-no_import q = rw e q

  pub cells-no_import : {rest told : List ℕ} → told ≡ (0 ∷ 0 ∷ 0 ∷ 0 ∷ []) ++ rest → told ≡ import_cells (Err x) ++ rest
  unfolding import_cells
  cells-no_import cells = rw e cells

-- what is told of an error is told of what said it
module _ {said : Imported} {x : ImportError} (e : said ≡ Err x) where
  pub number-import_error : {n : ℕ} → n ≡ import_number (Err x) → n ≡ import_number said
  number-import_error q = rw e q

  pub cells-import_error : {told : List ℕ} (rest : List ℕ) → told ≡ import_cells (Err x) ++ rest → told ≡ import_cells said ++ rest
  cells-import_error rest q = rw e q

-- ---- the export's number and cell

module _ {said : Exported} {bytes : ℕ} (e : said ≡ Ok bytes) where
  pub number-exported : 0 ≡ export_number said
  unfolding export_number
  number-exported = rw e refl

  pub cell-exported : (lent : List ℕ) → 1 ≤ length lent → set lent 0 bytes ≡ export_cell said ∷ drop 1 lent
  unfolding export_cell
  cell-exported lent long = rw e (first bytes lent long)

module _ {x : ExportError} where
  pub number_ambiguous : x ≡ Exp.Ambiguous → 25 ≡ export_number (Err x)
  unfolding export_number
  number_ambiguous e = rw e refl

  pub number-no_export : {refusal : Refusal} {n : ℕ} → x ≡ Exp.Refused refusal → n ≡ number_of refusal → n ≡ export_number (Err x)
  unfolding export_number
  number-no_export e q = rw e q

module _ {said : Exported} {x : ExportError} (e : said ≡ Err x) where
  pub number-export_error : {n : ℕ} → n ≡ export_number (Err x) → n ≡ export_number said
  number-export_error q = rw e q

  pub cell-export_error : (lent : List ℕ) → 1 ≤ length lent → set lent 0 0 ≡ export_cell said ∷ drop 1 lent
  unfolding export_cell
  cell-export_error lent long = rw e (first 0 lent long)
