-- What an import takes: every line that it takes is an event by the grammar, and every log that can be written is taken
use Rattle.std.specs.Prelude.{◌≡◌, refl, Bool, true, false, List, [], ◌∷◌, ℕ, ◌+◌, ◌-◌, ◌≤◌, leb, length, Ok, Err}
use Rattle.std.proofs.Common.{sym, ap, subst, ◌∙◌, le-leb}
use Rattle.meaning.specs.declared.Refusal.TheVariants.{BadLimits}
use Rattle.meaning.specs.Tests.{choose}
use Rattle.laws.specs.Tests.{pass, yes}
use Rattle.jsontext.specs.Reading.{Read, got, fault}
use Rattle.jsontext.specs.Events.{Event, Log, events, refused, line, cut, with_event, lines, log}
use Rattle.jsontrace.specs.declared.ImportError.TheVariants.{Refused}
use Rattle.jsontrace.specs.Trace.{trace, trace_marks}
use Rattle.jsontrace.specs.Import.{cells_for, longest, given_events, given_log, imported}
use Rattle.jsontrace.specs.Text.{log_text}
use Rattle.jsontrace.specs.Writable.{writable_events}
use Rattle.jsontrace.proofs.Laws.Lines.{log-reads}

-- ---- every line that is taken is an event

-- the lines of a text, each read as an event
pub data Reads : List (List ℕ) → List Event → Type 0 where
  none : Reads [] []
  more : {l : List ℕ} {ls : List (List ℕ)} {e : Event} {es : List Event} (rest : List ℕ) → line l ≡ got e rest → Reads ls es → Reads (l ∷ ls) (e ∷ es)

pub record Taken (text : List ℕ) : Type 0 where
  pub what : List Event
  pub is : log text ≡ events what
  pub reads : Reads (cut text) what

-- what a line adds to those after it
record Split (e : Event) (l : Log) (es : List Event) : Type 0 where
  others : List Event
  is : l ≡ events others
  whole : es ≡ e ∷ others

split : (e : Event) (l : Log) (es : List Event) → with_event e l ≡ events es → Split e l es
unfolding with_event
split e (events others) es h = record { others = others; is = refl; whole = cc }
split e (refused w at first) es h = cc

read-lines : (at : ℕ) (ls : List (List ℕ)) (es : List Event) → lines at ls ≡ events es → Reads ls es
unfolding lines
read-lines at [] es h = let e : [] ≡ es = cc in subst (λ (x : List Event). Reads [] x) e none
read-lines at (l ∷ ls) es h = go (line l) refl h (λ others q. read-lines (at + length l + 1) ls others q)
  where
    go : (r : Read Event) → line l ≡ r → elim r as (λ x. Log) [ got e rest ↦ with_event e (lines (at + length l + 1) ls) | fault w left first ↦ refused w (at + length l - left) (at + length l - first) ] ≡ events es → ((others : List Event) → lines (at + length l + 1) ls ≡ events others → Reads ls others) → Reads (l ∷ ls) es
    go (got e rest) q h next =
        let s = split e (lines (at + length l + 1) ls) es h in
        subst (λ (x : List Event). Reads (l ∷ ls) x) (sym s.whole) (more rest q (next s.others s.is))
    go (fault w left first) q h next = cc

pub accepted : (text workspace file marks : List ℕ) (bytes many : ℕ) → imported text workspace file marks ≡ Ok (bytes, many) → Taken text
unfolding imported given_log choose log
accepted text workspace file marks bytes many h = go (leb (cells_for text) (length workspace)) (lines 0 (cut text)) refl h
  where
    go : (b : Bool) (l : Log) → lines 0 (cut text) ≡ l → choose b (given_log file marks l) (Err (Refused BadLimits)) ≡ Ok (bytes, many) → Taken text
    go true (events es) q h = record { what = es; is = q; reads = read-lines 0 (cut text) es q }
    go true (refused w at first) q h = cc
    go false l q h = cc

-- ---- every log that can be written is taken

pub accepts : (es : List Event) → writable_events es ≡ true → (workspace file marks : List ℕ) → cells_for (log_text es) ≤ length workspace → length (trace es) ≤ longest → length (trace es) ≤ length file → length (trace_marks es) ≤ length marks → imported (log_text es) workspace file marks ≡ Ok (length (trace es), length (trace_marks es))
unfolding imported given_log given_events
accepts es w workspace file marks c l f m =
    yes _ (le-leb (cells_for (log_text es)) (length workspace) c)
    ∙ ap (given_log file marks) (log-reads es w)
    ∙ yes _ (le-leb (length (trace es)) longest l)
    ∙ yes _ (pass (le-leb (length (trace es)) (length file) f) (le-leb (length (trace_marks es)) (length marks) m))
