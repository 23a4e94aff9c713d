-- The lines of a log, each written as a point
use mathlib.Core.Path.{◌≡◌, refl, sym, ap, subst, ◌∙◌}
use mathlib.Core.List.{List, [], ◌∷◌, map}
use Prim.Native.Nat.{ℕ, ◌+◌, ◌*◌, ◌-◌, ◌^◌, ◌<◌, ◌≤◌}
use native.Mathlib.Omega.{arith}
use lib.ListN.{length, drop, drop_of_length-le}
use mir.Val.{Fits}
use mir.Syntax.{w64}
use Rattle.jsontext.specs.Reading.{Read, got, fault}
use Rattle.jsontext.specs.Events.{Event, line as line_of, cut, Log, events, refused, with_event, lines, log}
use Rattle.jsontrace.specs.Order.{arranged}
use Rattle.jsontrace.specs.Trace.{Tables, empty, ◌⊕◌, Next as Next-as_Trace, first, past, event_adds, events_add, tables_of}
use Rattle.jsontrace.proofs.Laws.Trace.{Shaped, ◌then◌, shaped-empty, shaped-event}
use Rattle.jsonroom.specs.declared.Bodies.{Bodies}
use Rattle.jsonroom.specs.declared.Next.{Next}
use Rattle.jsonlines.specs.Events.{line_length}
use Rattle.jsonlines.proofs.Lines.{line_from, end-within, line-long, cut_line, line_by, lines-is, no_lines}
use Rattle.jsonview.specs.Showing.{same_next}
use Rattle.jsonview.specs.Room.{numbers}
use Rattle.jsonentry.specs.Entries.{unwritten, LineDue, LineWritten, LogDue, LogWritten}
use Rattle.jsonentry.specs.Marks.{MarkReady, MarkAdds}
use Rattle.jsonentry.specs.Marking.{mark-then, mark-ready-first, mark-ready-second}
use Rattle.jsonentities.specs.Lists.{mark-numbers}
use Rattle.jsonpieces.proofs.Names.{adds-nothing}

-- ---- events

abbrev all_add : List Event → Next-as_Trace → Tables
all_add es k = events_add (map arranged es) k

all_none : (k : Next-as_Trace) → all_add [] k ≡ empty
unfolding events_add
all_none k = refl

all_more : (e : Event) (es : List Event) (k : Next-as_Trace) → all_add (e ∷ es) k ≡ event_adds (arranged e) k ⊕ all_add es (past k (event_adds (arranged e) k))
unfolding events_add
all_more e es k = refl

shaped-all : (es : List Event) (k : Next-as_Trace) → Shaped (all_add es k)
shaped-all [] k = subst Shaped (sym (all_none k)) shaped-empty
shaped-all (e ∷ es) k = subst Shaped (sym (all_more e es k)) (shaped-event (arranged e) k then shaped-all es (past k (event_adds (arranged e) k)))

-- ---- a good log's first line is an event, and the others are the others

pub record Firsts (l : List ℕ) (at : ℕ) (ls : List (List ℕ)) (left : List Event) : Type 0 where
  pub what : Event
  pub rest : List ℕ
  pub others : List Event
  pub is : line_of l ≡ got what rest
  pub left_is : left ≡ what ∷ others
  pub more : lines at ls ≡ events others

record Onto (e : Event) (l : Log) (left : List Event) : Type 0 where
  others : List Event
  is : left ≡ e ∷ others
  more : l ≡ events others

onto_of : (e : Event) (l : Log) (left : List Event) → with_event e l ≡ events left → Onto e l left
unfolding with_event
onto_of e (events es) left q = record { others = es; is = cc; more = refl }
onto_of e (refused w p r) left q = absurd (let z : ◌≡◌ {A = ℕ} 0 1 = cc in omega arith)

firsts : (at : ℕ) (l : List ℕ) (ls : List (List ℕ)) (left : List Event) → lines at (l ∷ ls) ≡ events left → Firsts l (at + length l + 1) ls left
firsts at l ls left q =
    go (line_of l) refl (sym (lines-is at l ls) ∙ q)
  where
    go : (m : Read Event) → line_of l ≡ m → line_by at l ls m ≡ events left → Firsts l (at + length l + 1) ls left
    go (got e rest) p f = let o = onto_of e (lines (at + length l + 1) ls) left f in record { what = e; rest = rest; others = o.others; is = p; left_is = o.is; more = o.more }
    go (fault w i j) p f = absurd (let z : ◌≡◌ {A = ℕ} 0 1 = cc in omega arith)

-- ---- the loop

-- what is written from here on is written of the whole
pub record Logging (text names₀ names before file marks₀ marks : List ℕ) (b : Bodies) (next : Next) (at : ℕ) : Type 0 where
  what : List Event
  is : log text ≡ events what
  left : List Event
  lines_are : lines at (cut (drop at text)) ≡ events left
  ready : MarkReady file marks b next (all_add left (numbers next))
  adds : (after marks' : List ℕ) (m : Next) → MarkAdds file after marks marks' b next (all_add left (numbers next)) m → MarkAdds before after marks₀ marks' b unwritten (tables_of what) m
  cells : length text ≤ 4 * length names
  names-long : length names ≡ length names₀
  out-long : length file ≡ length before
  marks-long : length marks ≡ length marks₀

first-numbers : numbers unwritten ≡ first
unfolding numbers unwritten first
first-numbers = refl

whole_is : (es : List Event) → tables_of es ≡ all_add es (numbers unwritten)
unfolding tables_of
whole_is es = ap (λ (k : Next-as_Trace). all_add es k) (sym first-numbers)

module _ {text names file marks : List ℕ} {b : Bodies} (d : LogDue text names file marks b) where
  starts : Logging text names names file file marks marks b unwritten 0
  starts = record {
    what = d.what;
    is = d.is;
    left = d.what;
    lines_are = unfold log in d.is;
    ready = subst (λ (t : Tables). MarkReady file marks b unwritten t) (whole_is d.what) d.ready;
    adds = λ after marks' m p. subst (λ (t : Tables). MarkAdds file after marks marks' b unwritten t m) (sym (whole_is d.what)) p;
    cells = d.cells;
    names-long = refl;
    out-long = refl;
    marks-long = refl;
  }

  -- of numbers that are all 0
  pub log-starts : {k : Next} → (k.string ≡ 0) × ((k.byte ≡ 0) × ((k.value ≡ 0) × ((k.member ≡ 0) × ((k.list ≡ 0) × (k.point ≡ 0))))) → Logging text names names file file marks marks b k 0
  log-starts {k} h =
      let z : k ≡ unwritten = unfold unwritten in same_next h.0 h.1.0 h.1.1.0 h.1.1.1.0 h.1.1.1.1.0 h.1.1.1.1.1 in
      subst (λ (n : Next). Logging text names names file file marks marks b n 0) (sym z) starts

module _ {text names₀ names before file marks₀ marks : List ℕ} {b : Bodies} {next : Next} {at : ℕ} (g : Logging text names₀ names before file marks₀ marks b next at) where
  pub log-names : length names ≡ length names₀
  log-names = g.names-long

  pub log-out : length file ≡ length before
  log-out = g.out-long

  pub log-marks : length marks ≡ length marks₀
  log-marks = g.marks-long

  pub log-written : length text ≤ at → LogWritten text names₀ names before file marks₀ marks b next
  log-written h =
      let none : events g.left ≡ events [] = sym g.lines_are ∙ no_lines at (drop at text) (drop_of_length-le text h) in
      let z : g.left ≡ [] = cc in
      let u : all_add g.left (numbers next) ≡ empty = ap (λ (es : List Event). all_add es (numbers next)) z ∙ all_none (numbers next) in
      let all : MarkAdds before file marks₀ marks b unwritten (tables_of g.what) next = g.adds file marks next (subst (λ (t : Tables). MarkAdds file file marks marks b next t next) (sym u) (adds-nothing file marks b next)) in
      record {
        long = g.names-long;
        adds = λ what q. let s = sym g.is ∙ q in let e : g.what ≡ what = cc in subst (λ (es : List Event). MarkAdds before file marks₀ marks b unwritten (tables_of es) next) e all;
      }

  module _ {end : ℕ} (h : at < length text) (e : end ≡ at + line_length (drop at text)) where
    abbrev line : List ℕ
    line = line_from text at end

    line_first : Firsts line (end + 1) (cut (drop (end + 1) text)) g.left
    line_first =
        let z : at + length line + 1 ≡ end + 1 = omega (arith, line-long text at end h e) in
        subst (λ (k : ℕ). Firsts line k (cut (drop (end + 1) text)) g.left) z
        (firsts at line (cut (drop (end + 1) text)) g.left (sym (ap (lines at) (cut_line text at end h e)) ∙ g.lines_are))

    abbrev now : Tables
    now = event_adds (arranged line_first.what) (numbers next)

    abbrev later : Next-as_Trace → Tables
    later k = all_add line_first.others k

    left-are : all_add g.left (numbers next) ≡ now ⊕ later (past (numbers next) now)
    left-are = ap (λ (es : List Event). all_add es (numbers next)) line_first.left_is ∙ all_more line_first.what line_first.others (numbers next)

    left-ready : MarkReady file marks b next (now ⊕ later (past (numbers next) now))
    left-ready = subst (λ (t : Tables). MarkReady file marks b next t) left-are g.ready

    now-ready : MarkReady file marks b next now
    now-ready = mark-ready-first now (later (past (numbers next) now)) left-ready

    pub log-line : LineDue (line_from text at end) names file marks b next
    log-line = record {
      what = line_first.what;
      rest = line_first.rest;
      is = line_first.is;
      ready = now-ready;
      cells = omega (arith, g.cells, line-long text at end h e, end-within text at end h e);
    }

    module _ {names' after marks' : List ℕ} {m : Next} (p : LineWritten (line_from text at end) names names' file after marks marks' b next m) where
      now-added : MarkAdds file after marks marks' b next now m
      now-added = p.adds line_first.what line_first.rest line_first.is

      next-numbers : numbers m ≡ past (numbers next) now
      next-numbers = mark-numbers now now-ready now-added

      pub log-again : length after ≡ length file → length marks' ≡ length marks → Logging text names₀ names' before after marks₀ marks' b m (end + 1)
      log-again l k = record {
        what = g.what;
        is = g.is;
        left = line_first.others;
        lines_are = line_first.more;
        ready = subst (λ (q : Next-as_Trace). MarkReady after marks' b m (later q)) (sym next-numbers) (mark-ready-second now (later (past (numbers next) now)) (shaped-event (arranged line_first.what) (numbers next)) left-ready now-added l);
        adds =
            λ last marks'' r q.
            g.adds last marks'' r
            (subst (λ (t : Tables). MarkAdds file last marks marks'' b next t r) (sym left-are)
            (mark-then now (later (past (numbers next) now)) (shaped-event (arranged line_first.what) (numbers next)) (shaped-all line_first.others _) now-added
            (subst (λ (x : Next-as_Trace). MarkAdds after last marks' marks'' b m (later x) r) next-numbers q)));
        cells = let n : length names' ≡ length names = p.long in omega (arith, g.cells, n);
        names-long = p.long ∙ g.names-long;
        out-long = l ∙ g.out-long;
        marks-long = k ∙ g.marks-long;
      }

    pub log-falls : length text - (end + 1) < length text - at
    log-falls = omega (arith, e, h)

pub log-fit : (text : List ℕ) (at end : ℕ) → at < length text → end ≡ at + line_length (drop at text) → length text * 1 < 2 ^ 63 → Fits w64 (end + 1)
log-fit text at end h e l = record { fits = omega (arith, end-within text at end h e, l) }
