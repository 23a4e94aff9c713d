-- What the import call says and leaves in each buffer, and its parts
use Rattle.std.specs.Prelude.{◌≡◌, List, ℕ, ◌*◌, ◌≤◌, length}
use Rattle.encode.specs.Write.{over}
use Rattle.jsontext.specs.Events.{Event, events, log}
use Rattle.jsontrace.specs.Trace.{trace as trace_of, trace_marks}
use Rattle.jsontrace.specs.Count.{counted_events}
use Rattle.jsontrace.specs.Import.{Imported, given_events, given_log, events_of, filled_if, import_call}
use Rattle.jsonroom.specs.declared.Bodies.{Bodies}
use Rattle.jsonwrite.specs.Bodies.{Laid}

-- the whole call: one equation, every cell of every buffer
pub record Imports (text workspace workspace' file file' marks marks' : List ℕ) (r : Imported) : Type 0 where
  pub is : record { said = r; workspace = workspace'; trace = file'; marks = marks' } ≡ import_call text workspace file marks

-- of any text, with enough cells
pub record ReadTold (text names names' file file' marks marks' : List ℕ) (r : Imported) : Type 0 where
  pub long : length names' ≡ length names
  pub said : r ≡ given_log file marks (log text)
  pub trace : file' ≡ filled_if r (trace_of (events_of (log text))) file
  pub marked : marks' ≡ filled_if r (trace_marks (events_of (log text))) marks

-- ---- of a good text

pub record GoodIs (what : List Event) (file file' marks marks' : List ℕ) (r : Imported) : Type 0 where
  pub said : r ≡ given_events file marks what
  pub trace : file' ≡ filled_if r (trace_of what) file
  pub marked : marks' ≡ filled_if r (trace_marks what) marks

pub record GoodTold (text names names' file file' marks marks' : List ℕ) (r : Imported) : Type 0 where
  pub long : length names' ≡ length names
  pub is : (what : List Event) → log text ≡ events what → GoodIs what file file' marks marks' r

-- ---- its trace, in a file that it fills

pub record TraceDue (text names file marks : List ℕ) (b : Bodies) : Type 0 where
  pub what : List Event
  pub is : log text ≡ events what
  pub laid : Laid (counted_events what) b
  pub long : length file ≡ b.end
  pub words : b.end ≤ 4294967295
  pub for-marks : (counted_events what).lists ≤ length marks
  pub cells : length text ≤ 4 * length names

pub record TraceWritten (text names names' file' marks marks' : List ℕ) : Type 0 where
  pub long : length names' ≡ length names
  pub is : (what : List Event) → log text ≡ events what → file' ≡ trace_of what
  pub marked : (what : List Event) → log text ≡ events what → marks' ≡ over (trace_marks what) marks
