-- The import call, for every input: what is said, and what the workspace, the trace and the marks hold after it (J16)
use Rattle.std.specs.Prelude.{List, [], ℕ, ◌+◌, ◌/◌, leb, length, Result, Ok, Err}
use Rattle.meaning.specs.declared.Refusal.TheVariants.{TooLarge, BadLimits, OutputTooShort}
use Rattle.meaning.specs.Tests.{◌and◌, choose}
use Rattle.meaning.specs.Calls.{number_of, cleared}
use Rattle.encode.specs.Write.{over}
use Rattle.jsontext.specs.declared.Fault.{Fault}
use Rattle.jsontext.specs.declared.Fault.TheVariants.{NotJson, RepeatedName, BadNumber, BadField, TooDeep}
use Rattle.jsontext.specs.Events.{Event, Log, events, refused, log}
use Rattle.jsontrace.specs.declared.ImportError.{ImportError}
use Rattle.jsontrace.specs.declared.ImportError.TheVariants.{Faulty, Refused}
use Rattle.jsontrace.specs.Trace.{trace, trace_marks}

-- bytes of the trace and of its marks; or why there is none
abbrev pub Imported : Type 0
Imported = Result (ℕ × ℕ) ImportError

unfoldable pub fault_number : Fault → ℕ
fault_number NotJson = 20
fault_number RepeatedName = 21
fault_number BadNumber = 22
fault_number BadField = 23
fault_number TooDeep = 24

-- 0 where nothing is refused
unfoldable pub import_number : Imported → ℕ
import_number (Ok sizes) = 0
import_number (Err (Faulty bad)) = fault_number bad.fault
import_number (Err (Refused r)) = number_of r

-- a name takes four bytes of the text at least, with its colon and its value
unfoldable pub cells_for : List ℕ → ℕ
cells_for text = (length text + 3) / 4

-- a file's offsets are words
abbrev pub longest : ℕ
longest = 4294967295

-- what is lent: room for the trace and for its marks
module _ (file marks : List ℕ) where
  -- 2 for a trace that no file can hold, 14 last
  unfoldable pub given_events : List Event → Imported
  given_events es =
      choose (leb (length (trace es)) longest)
      (choose (leb (length (trace es)) (length file) and leb (length (trace_marks es)) (length marks))
      (Ok (length (trace es), length (trace_marks es)))
      (Err (Refused OutputTooShort)))
      (Err (Refused TooLarge))

  unfoldable pub given_log : Log → Imported
  given_log (events es) = given_events es
  given_log (refused w at before) = Err (Faulty (record { fault = w; at = at; first = before }))

-- and a workspace for the names of open objects: 10 first, then what is wrong with the text
unfoldable pub imported : List ℕ → List ℕ → List ℕ → List ℕ → Imported
imported text workspace file marks =
    choose (leb (cells_for text) (length workspace)) (given_log file marks (log text)) (Err (Refused BadLimits))

-- ---- after it

-- the cells that may be used are 0, unless there are too few
unfoldable pub workspace_after : List ℕ → List ℕ → List ℕ
workspace_after text workspace =
    choose (leb (cells_for text) (length workspace)) (cleared (cells_for text) workspace) workspace

unfoldable pub events_of : Log → List Event
events_of (events es) = es
events_of (refused w at before) = []

-- a buffer changes only on an answer, only in the bytes filled
unfoldable pub filled_if : Imported → List ℕ → List ℕ → List ℕ
filled_if (Ok sizes) new buffer = over new buffer
filled_if (Err e) new buffer = buffer

pub record ImportResult : Type 0 where
  pub said : Imported
  pub workspace : List ℕ
  pub trace : List ℕ
  pub marks : List ℕ

unfoldable pub import_call : List ℕ → List ℕ → List ℕ → List ℕ → ImportResult
import_call text workspace file marks =
    let said = imported text workspace file marks in
    record {
      said = said;
      workspace = workspace_after text workspace;
      trace = filled_if said (trace (events_of (log text))) file;
      marks = filled_if said (trace_marks (events_of (log text))) marks;
    }
