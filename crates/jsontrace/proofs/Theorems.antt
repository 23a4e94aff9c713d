-- What is shown of import and export: what they say goes by lengths and text alone; a case's log is read as its points; and a trace passes rule 1 of the writer
use Rattle.std.specs.Prelude.{◌≡◌, refl, Bool, true, false, List, [], ◌∷◌, ◌++◌, ℕ, leb, length, take, drop, Ok, Err}
use Rattle.std.proofs.Common.{sym, ◌∙◌, take_at, eq-eqb}
use Rattle.std.proofs.Math.Path.{ap}
use Rattle.std.proofs.Math.Option.{Option, none, some}
use Rattle.meaning.specs.declared.Refusal.{Refusal}
use Rattle.meaning.specs.declared.Refusal.TheVariants.{TooLarge, BadLimits, OutputTooShort}
use Rattle.meaning.specs.Tests.{◌and◌, choose, first_broken, all_below}
use Rattle.meaning.specs.Case.{strings, nodes}
use Rattle.meaning.specs.Check.{Checked, check, mosts, string_rules, node_rules}
use Rattle.laws.specs.Tests.{pass, yes}
use Rattle.encode.specs.Unsorted.{in_text, finished}
use Rattle.encode.specs.Write.{over, node_marks, make_refusal}
use Rattle.jsontext.specs.Events.{Event, Log, events, refused, log}
use Rattle.jsontrace.specs.declared.ImportError.TheVariants.{Refused as Refused-as-ImportError}
use Rattle.jsontrace.specs.declared.ExportError.TheVariants.{Ambiguous, Refused}
use Rattle.jsontrace.specs.Trace.{trace, trace_marks}
use Rattle.jsontrace.specs.Count.{counted_events, trace_bytes}
use Rattle.jsontrace.specs.Import.{cells_for, given_events, given_log, imported}
use Rattle.jsontrace.specs.Export.{Exported, point_events, exported, clear_events, given_case, unless_refused, filled_if, export_call}
use Rattle.jsontrace.specs.Writable.{writable_events}
use Rattle.jsontrace.proofs.Laws.Trace.{trace-bodies, trace-marks, trace-long, marks-long}
use Rattle.jsontrace.proofs.Laws.Taken.{never_3, never_6}
use Rattle.jsontrace.proofs.Laws.Lines.{export_reads}
use Rattle.jsontrace.proofs.Laws.Case.{points-write}

-- ---- 1: one answer

-- what is lent is told by its length alone, whatever it holds
given-same : (f m f' m' : List ℕ) → length f ≡ length f' → length m ≡ length m' → (l : Log) → given_log f m l ≡ given_log f' m' l
unfolding given_log given_events
given-same f m f' m' q r (events es) = rw (q, r) refl
given-same f m f' m' q r (refused w at first) = refl

pub one_import : (text w f m w' f' m' : List ℕ) → length w ≡ length w' → length f ≡ length f' → length m ≡ length m' → imported text w f m ≡ imported text w' f' m'
unfolding imported
one_import text w f m w' f' m' p q r = rw (p, given-same f m f' m' q r (log text)) refl

pub one_export : (s o o' : List ℕ) → length o ≡ length o' → (export_call s o).said ≡ (export_call s o').said
unfolding export_call given_case
one_export s o o' p = rw p refl

-- ---- 2: a case's log is read as its points

pub reads-back : (s : List ℕ) → Checked s → clear_events (point_events s) ≡ true → log (exported s) ≡ events (point_events s)
reads-back s c k = export_reads s (points-write c k)

-- where the call answers, what it wrote is read so
record Answered (s output : List ℕ) (n : ℕ) : Type 0 where
  checked : Checked s
  clear : clear_events (point_events s) ≡ true
  long : n ≡ length (exported s)

answered : (s output : List ℕ) (n : ℕ) → (export_call s output).said ≡ Ok n → Answered s output n
unfolding export_call given_case unless_refused choose
answered s output n h = go (check s) (clear_events (point_events s)) (leb (length (exported s)) (length output)) refl refl h
  where
    go : (r : Option Refusal) (k l : Bool) → check s ≡ r → clear_events (point_events s) ≡ k → unless_refused r (choose k (choose l (Ok (length (exported s))) (Err (Refused OutputTooShort))) (Err Ambiguous)) ≡ Ok n → Answered s output n
    go none true true e f h = record { checked = record { passes = e }; clear = f; long = cc }
    go none true false e f h = cc
    go none false l e f h = cc
    go (some r) k l e f h = cc

pub wrote-points : (s output : List ℕ) (n : ℕ) → (export_call s output).said ≡ Ok n → log (take n (export_call s output).output) ≡ events (point_events s)
wrote-points s output n h =
    let a = answered s output n h in
    ap log (ap (take n) (wrote s output n h) ∙ take_at (exported s) (drop (length (exported s)) output) n (sym a.long))
    ∙ reads-back s a.checked a.clear
  where
    wrote : (s output : List ℕ) (n : ℕ) → (export_call s output).said ≡ Ok n → (export_call s output).output ≡ exported s ++ drop (length (exported s)) output
    wrote s output n h = unfold export_call in ap (λ (e : Exported). filled_if e (exported s) output) h ∙ (unfold filled_if over in refl)

-- and imported, it gives the trace of these points
pub import_export : (s : List ℕ) → Checked s → clear_events (point_events s) ≡ true → (workspace file marks : List ℕ) → imported (exported s) workspace file marks ≡ choose (leb (cells_for (exported s)) (length workspace)) (given_events file marks (point_events s)) (Err (Refused-as-ImportError BadLimits))
unfolding imported given_log
import_export s c k workspace file marks = rw (reads-back s c k) refl

-- ---- 3: what import gives, the writer does not refuse 1

pub taken : (es : List Event) (room : List ℕ) → make_refusal (trace es) (trace_marks es) room ≡ first_broken ((mosts (finished (trace es) (trace_marks es)), TooLarge) ∷ (leb (length (finished (trace es) (trace_marks es))) (length room), BadLimits) ∷ [])
unfolding make_refusal
taken es room = yes _ (pass (trace-bodies es) (eq-eqb _ _ (trace-marks es)))

-- nor 6, whatever the events
pub no_6 : (es : List Event) → (node_rules (finished (trace es) (trace_marks es)) and all_below (nodes (finished (trace es) (trace_marks es))) (node_marks (finished (trace es) (trace_marks es)) (trace_marks es))) ≡ true
no_6 es = never_6 es

-- nor 3, where the events can be written
pub no_3 : (es : List Event) → writable_events es ≡ true → (all_below (strings (trace es)) (in_text (trace es)) and string_rules (finished (trace es) (trace_marks es))) ≡ true
no_3 es h = never_3 es h

-- ---- 4: how long a trace is, by what its events count

pub as-long-as-counted : (es : List Event) → length (trace es) ≡ trace_bytes (counted_events es)
as-long-as-counted es = trace-long es

pub marks-as-counted : (es : List Event) → length (trace_marks es) ≡ (counted_events es).lists
marks-as-counted es = marks-long es
