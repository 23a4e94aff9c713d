-- What a caller in C sees of each call: the number returned, and every cell that it lent
use Rattle.std.specs.Prelude.{◌≡◌, Bool, cond, List, [], ◌∷◌, ◌++◌, ℕ, ltb, length, drop, Ok, Err}
use Rattle.std.proofs.Math.Option.{Option, none, some}
use Rattle.meaning.specs.Tests.{choose}
use Rattle.meaning.specs.Calls.{number_of, check_call, Said, gives, refuses, Result, Answer, verdict, number}
use Rattle.meaning.specs.Carried.{Carried}
use Rattle.meaning.specs.declared.Refusal.{Refusal}
use Rattle.encode.specs.Unsorted.{finished}
use Rattle.encode.specs.Write.{make_refusal, room_after, write_refusal, output_after}
use Rattle.jsontrace.specs.declared.ImportError.TheVariants.{Faulty, Refused}
use Rattle.jsontrace.specs.Import.{Imported, import_number, ImportResult, import_call}
use Rattle.jsontrace.specs.Export.{Exported, export_number, ExportResult, export_call}

-- the layer's own complaint, which no document's refusal has: the cells for the answer are too few, and nothing was done
abbrev pub too_few : ℕ
too_few = 100

-- 0 for an answer, or the refusal's number
unfoldable pub said_number : {A : Type 0} → Said A → ℕ
said_number (gives a steps most) = 0
said_number (refuses n steps most) = n

-- ---- the check

-- V, strings, values, points, nodes where the case passes
unfoldable pub contents_after : List ℕ → Said (List ℕ) → List ℕ
contents_after lent (gives counts steps most) = counts ++ drop 5 lent
contents_after lent (refuses n steps most) = lent

-- the number returned, and the cells for the contents after the call
pub record CheckSeen : Type 0 where
  pub number : ℕ
  pub contents : List ℕ

unfoldable pub check_seen : List ℕ → List ℕ → CheckSeen
check_seen s lent =
    choose (ltb (length lent) 5) (record { number = too_few; contents = lent })
    (record { number = said_number (check_call s); contents = contents_after lent (check_call s) })

pub record Checks (s lent after : List ℕ) (r : ℕ) : Type 0 where
  pub is : ◌≡◌ {A = CheckSeen} (record { number = r; contents = after }) (check_seen s lent)

-- ---- asking

-- the answer's cell, steps spent, the greatest number of rows held, and the call's own fourth; first and fourth are 0 where refused
unfoldable pub told_cells : {A : Type 0} → (A → ℕ) → (A → ℕ) → Said A → List ℕ
told_cells cell fourth (gives a steps most) = cell a ∷ steps ∷ most ∷ fourth a ∷ []
told_cells cell fourth (refuses n steps most) = 0 ∷ steps ∷ most ∷ 0 ∷ []

-- the number returned, the workspace, the output, and the cells that the answer is told in
pub record Seen : Type 0 where
  pub number : ℕ
  pub workspace : List ℕ
  pub output : List ℕ
  pub told : List ℕ

abbrev pub seen : ℕ → List ℕ → List ℕ → List ℕ → Seen
seen r work output told = record { number = r; workspace = work; output = output; told = told }

-- of any asking call: what it comes to, and the workspace, the output and the told cells before it
unfoldable pub ask_seen : {A : Type 0} → (A → ℕ) → (A → ℕ) → Result A → List ℕ → List ℕ → List ℕ → Seen
ask_seen cell fourth r work output lent =
    choose (ltb (length lent) 4) (seen too_few work output lent)
    (seen (said_number r.said) r.workspace r.output (told_cells cell fourth r.said ++ drop 4 lent))

pub record Tells {A : Type 0} (cell fourth : A → ℕ) (r : Result A) (work output lent : List ℕ) (after : Seen) : Type 0 where
  pub is : after ≡ ask_seen cell fourth r work output lent

-- ---- the ask call: 1 for a yes, 0 for a no; a number's 64 bits

abbrev pub yes_cell : Bool → ℕ
yes_cell b = cond b 1 0

unfoldable pub answer_cell : Answer → ℕ
answer_cell (verdict b) = yes_cell b
answer_cell (number bits) = bits

-- 0 where the answer is a verdict, 1 where it is a number
unfoldable pub sort_cell : Answer → ℕ
sort_cell (verdict b) = 0
sort_cell (number bits) = 1

-- ---- the rows call: how many rows, and nothing more

abbrev pub count_cell : ℕ → ℕ
count_cell n = n

abbrev pub no_cell : ℕ → ℕ
no_cell n = 0

-- ---- the carried call: 1 for a yes, 0 for a no; and how many cells of the list were filled

abbrev pub carried_cell : Carried → ℕ
carried_cell r = yes_cell r.verdict

abbrev pub filled_cell : Carried → ℕ
filled_cell r = r.filled

-- ---- the writer: the number returned, the room, the output, and one cell with the bytes written

unfoldable pub refusal_number : Option Refusal → ℕ
refusal_number none = 0
refusal_number (some r) = number_of r

unfoldable pub size_cell : ℕ → Option Refusal → ℕ
size_cell size none = size
size_cell size (some r) = 0

-- the room stands in the workspace's place
unfoldable pub write_seen : List ℕ → List ℕ → List ℕ → List ℕ → List ℕ → Seen
write_seen s marks room output lent =
    choose (ltb (length lent) 1) (seen too_few room output lent)
    (seen (refusal_number (write_refusal s marks room output)) (room_after s marks room (make_refusal s marks room)) (output_after s marks room output (write_refusal s marks room output)) (size_cell (length (finished s marks)) (write_refusal s marks room output) ∷ drop 1 lent))

pub record WriteTells (s marks room output lent : List ℕ) (after : Seen) : Type 0 where
  pub is : after ≡ write_seen s marks room output lent

-- ---- the import: the number returned, the workspace, the trace, its marks, and four cells

-- bytes of the trace and of its marks; the place of a fault, and of the first of two equal names: 0 elsewhere
unfoldable pub import_cells : Imported → List ℕ
import_cells (Ok sizes) = sizes.0 ∷ sizes.1 ∷ 0 ∷ 0 ∷ []
import_cells (Err (Faulty bad)) = 0 ∷ 0 ∷ bad.at ∷ bad.first ∷ []
import_cells (Err (Refused r)) = 0 ∷ 0 ∷ 0 ∷ 0 ∷ []

pub record ImportSeen : Type 0 where
  pub number : ℕ
  pub workspace : List ℕ
  pub trace : List ℕ
  pub marks : List ℕ
  pub told : List ℕ

abbrev pub import_seen_as : ℕ → List ℕ → List ℕ → List ℕ → List ℕ → ImportSeen
import_seen_as r work trace marks told = record { number = r; workspace = work; trace = trace; marks = marks; told = told }

unfoldable pub import_told_as : ImportResult → List ℕ → ImportSeen
import_told_as r lent = import_seen_as (import_number r.said) r.workspace r.trace r.marks (import_cells r.said ++ drop 4 lent)

unfoldable pub import_seen : List ℕ → List ℕ → List ℕ → List ℕ → List ℕ → ImportSeen
import_seen text work trace marks lent =
    choose (ltb (length lent) 4) (import_seen_as too_few work trace marks lent)
    (import_told_as (import_call text work trace marks) lent)

pub record ImportTells (text work trace marks lent : List ℕ) (after : ImportSeen) : Type 0 where
  pub is : after ≡ import_seen text work trace marks lent

-- ---- the export: the number returned, the output, and one cell with the bytes written

unfoldable pub export_cell : Exported → ℕ
export_cell (Ok bytes) = bytes
export_cell (Err e) = 0

unfoldable pub export_told_as : ExportResult → List ℕ → Seen
export_told_as r lent = seen (export_number r.said) [] r.output (export_cell r.said ∷ drop 1 lent)

-- no workspace is lent
unfoldable pub export_seen : List ℕ → List ℕ → List ℕ → Seen
export_seen s output lent =
    choose (ltb (length lent) 1) (seen too_few [] output lent) (export_told_as (export_call s output) lent)

pub record ExportTells (s output lent : List ℕ) (after : Seen) : Type 0 where
  pub is : after ≡ export_seen s output lent
