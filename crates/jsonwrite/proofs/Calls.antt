-- The ways out of the call and of its parts
use mathlib.Core.Path.{◌≡◌, refl, sym, ap, ◌∙◌}
use mathlib.Core.Bool.{false}
use mathlib.Core.List.{List, ◌++◌}
use Prim.Native.Nat.{ℕ, ◌+◌, ◌*◌, ◌/◌, ◌<◌, ◌≤◌}
use native.Mathlib.Omega.{arith}
use lib.Dec.{leb}
use lib.ListN.{length, take, drop, replicate}
use lib.Seq.{length-take-le, drop_at}
use borrow.Author.Tests.{le-leb, lt-leb}
use Rattle.meaning.specs.declared.Refusal.TheVariants.{TooLarge, BadLimits, OutputTooShort}
use Rattle.meaning.specs.Tests.{◌and◌, choose}
use Rattle.meaning.specs.Calls.{cleared}
use Rattle.laws.specs.Tests.{pass, stop, yes, no}
use Rattle.encode.specs.Write.{over}
use Rattle.std.specs.Prelude.{Result, Ok, Err}
use Rattle.jsontext.specs.declared.Bad.{Bad}
use Rattle.jsontext.specs.Events.{Event, events, log}
use Rattle.jsontrace.specs.declared.ImportError.TheVariants.{Faulty, Refused}
use Rattle.jsontrace.specs.Trace.{trace, trace_marks}
use Rattle.jsontrace.specs.Import.{Imported, cells_for, given_events, given_log, imported, workspace_after, events_of, filled_if, ImportResult, import_call}
use Rattle.jsontrace.proofs.Laws.Trace.{trace-long, marks-long}
use Rattle.jsonroom.specs.declared.Bodies.{Bodies}
use Rattle.jsoncount.specs.declared.tallies.Tally.{Tally}
use Rattle.jsonlines.specs.Events.{LogIs, LogTold}
use Rattle.jsontotal.specs.Totals.{LogCounted}
use Rattle.jsonwrite.specs.Bodies.{count_of, Laid}
use Rattle.jsonwrite.specs.Import.{Imports, ReadTold, GoodTold, TraceDue, TraceWritten}
use Rattle.jsonwrite.proofs.Sizes.{end_is, too_long, list-words, laid}

-- ---- a good text

module _ {text : List ℕ} {c : Tally} {b : Bodies} (n : LogCounted text c) (l : Laid (count_of c) b) where
  trace-end : b.end ≤ 4294967295 → (es : List Event) → log text ≡ events es → length (trace es) ≡ b.end
  trace-end h es q = trace-long es ∙ sym (end_is (laid (n.is es q) l h))

  marks-end : b.end ≤ 4294967295 → (es : List Event) → log text ≡ events es → length (trace_marks es) ≡ c.lists
  marks-end h es q = marks-long es ∙ sym (list-words (n.is es q) l h)

  pub trace-due : {names marks : List ℕ} (file : List ℕ) → LogIs text → b.end ≤ 4294967295 → b.end ≤ length file → c.lists ≤ length marks → length text ≤ 4 * length names → TraceDue text names (take b.end file) marks b
  trace-due file g h k m w = record {
    what = g.what;
    is = g.is;
    laid = laid (n.is g.what g.is) l h;
    long = length-take-le b.end file k;
    words = h;
    for-marks = omega (arith, list-words (n.is g.what g.is) l h);
    cells = w;
  }

  module _ {names file marks : List ℕ} where
    pub good-large : 4294967295 < b.end → GoodTold text names names file file marks marks (Err (Refused TooLarge))
    unfolding given_events filled_if
    good-large h = record {
      long = refl;
      is = λ es q. record {
        said = sym (no _ (lt-leb (length (trace es)) 4294967295 (omega (arith, trace-long es, too_long (n.is es q) l h))) refl);
        trace = refl;
        marked = refl;
      };
    }

    pub good-short : b.end ≤ 4294967295 → length file < b.end → GoodTold text names names file file marks marks (Err (Refused OutputTooShort))
    unfolding given_events filled_if
    good-short h k = record {
      long = refl;
      is = λ es q. record {
        said = sym (yes _ (le-leb (length (trace es)) 4294967295 (omega (arith, trace-end h es q))) ∙ no _ (stop _ (lt-leb (length (trace es)) (length file) (omega (arith, trace-end h es q)))) refl);
        trace = refl;
        marked = refl;
      };
    }

    pub good-unmarked : b.end ≤ 4294967295 → b.end ≤ length file → length marks < c.lists → GoodTold text names names file file marks marks (Err (Refused OutputTooShort))
    unfolding given_events filled_if
    good-unmarked h k m = record {
      long = refl;
      is = λ es q. record {
        said = sym (yes _ (le-leb (length (trace es)) 4294967295 (omega (arith, trace-end h es q))) ∙ no _ (fails es q) refl);
        trace = refl;
        marked = refl;
      };
    }
      where
        fails : (es : List Event) → log text ≡ events es → (leb (length (trace es)) (length file) and leb (length (trace_marks es)) (length marks)) ≡ false
        fails es q =
            rw (le-leb (length (trace es)) (length file) (omega (arith, trace-end h es q)))
            (unfold ◌and◌ in lt-leb (length (trace_marks es)) (length marks) (omega (arith, marks-end h es q)))

    pub good-written : {names' part marks' : List ℕ} → TraceWritten text names names' part marks marks' → b.end ≤ 4294967295 → b.end ≤ length file → c.lists ≤ length marks → GoodTold text names names' file (part ++ drop b.end file) marks marks' (Ok (b.end, c.lists))
    unfolding given_events filled_if over
    good-written {part = part} t h k m = record {
      long = t.long;
      is = λ es q. record {
        said = sizes es q ∙ sym (yes _ (le-leb (length (trace es)) 4294967295 (omega (arith, trace-end h es q))) ∙ yes _ (pass (le-leb (length (trace es)) (length file) (omega (arith, trace-end h es q))) (le-leb (length (trace_marks es)) (length marks) (omega (arith, marks-end h es q)))));
        trace = ap (λ (x : List ℕ). x ++ drop b.end file) (t.is es q) ∙ ap (λ (x : ℕ). trace es ++ drop x file) (sym (trace-end h es q));
        marked = t.marked es q;
      };
    }
      where
        sizes : (es : List Event) → log text ≡ events es → ◌≡◌ {A = Imported} (Ok (b.end, c.lists)) (Ok (length (trace es), length (trace_marks es)))
        sizes es q = rw (trace-end h es q, marks-end h es q) refl

-- ---- any text

module _ {text names names' : List ℕ} {step : Result ℕ Bad} (t : LogTold text names names' step) where
  pub read-faulty : {file marks : List ℕ} {bad : Bad} → step ≡ Err bad → ReadTold text names names' file file marks marks (Err (Faulty bad))
  unfolding given_log filled_if
  read-faulty {bad = bad} e = record { long = t.long; said = rw (t.wrong bad e) refl; trace = refl; marked = refl }

  pub read_is : {e : ℕ} → step ≡ Ok e → LogIs text
  read_is {e} q = t.good e q

  pub read-good : {names'' file file' marks marks' : List ℕ} {e : ℕ} {r : Imported} → step ≡ Ok e → GoodTold text names' names'' file file' marks marks' r → ReadTold text names names'' file file' marks marks' r
  unfolding given_log events_of
  read-good {e = e} q g =
      let w = t.good e q in
      let i = g.is w.what w.is in
      record { long = g.long ∙ t.long; said = rw w.is i.said; trace = rw w.is i.trace; marked = rw w.is i.marked }

-- ---- the call

same : {a a' : Imported} {b b' c c' d d' : List ℕ} → a ≡ a' → b ≡ b' → c ≡ c' → d ≡ d' → ◌≡◌ {A = ImportResult} (record { said = a; workspace = b; trace = c; marks = d }) (record { said = a'; workspace = b'; trace = c'; marks = d' })
same p q r s = cc

module _ (text workspace : List ℕ) {n : ℕ} (e : n ≡ (length text + 3) / 4) where
  pub import_cells_lem : n ≤ length workspace → length text ≤ 4 * length (take n workspace)
  import_cells_lem h = omega (arith, length-take-le n workspace h)

  pub import_limited : {file marks : List ℕ} → length workspace < n → Imports text workspace workspace file file marks marks (Err (Refused BadLimits))
  unfolding import_call imported workspace_after cells_for filled_if
  import_limited h = record { is = rw (lt-leb ((length text + 3) / 4) (length workspace) (omega arith)) (unfold choose filled_if in refl) }

  pub import_told : {part after file file' marks marks' : List ℕ} {r : Imported} → ReadTold text (take n workspace) part file file' marks marks' r → n ≤ length workspace → after ≡ cleared n (part ++ drop n workspace) → Imports text workspace after file file' marks marks' r
  unfolding import_call imported workspace_after cells_for
  import_told {part} {after} {file} {file'} {marks} {marks'} {r} t h z =
      record { is = rw (le-leb ((length text + 3) / 4) (length workspace) (omega arith)) (unfold choose in all) }
    where
      lent : cleared n (part ++ drop n workspace) ≡ cleared n workspace
      lent = unfold cleared in ap (λ (x : List ℕ). replicate n 0 ++ x) (drop_at part (drop n workspace) n (t.long ∙ length-take-le n workspace h))

      cells : after ≡ cleared ((length text + 3) / 4) workspace
      cells =
          z ∙ lent ∙ ap (λ (x : ℕ). cleared x workspace) e

      all : ◌≡◌ {A = ImportResult} (record { said = r; workspace = after; trace = file'; marks = marks' }) (record { said = given_log file marks (log text); workspace = cleared ((length text + 3) / 4) workspace; trace = filled_if (given_log file marks (log text)) (trace (events_of (log text))) file; marks = filled_if (given_log file marks (log text)) (trace_marks (events_of (log text))) marks })
      all = same t.said cells (t.trace ∙ ap (λ (x : Imported). filled_if x (trace (events_of (log text))) file) t.said) (t.marked ∙ ap (λ (x : Imported). filled_if x (trace_marks (events_of (log text))) marks) t.said)
