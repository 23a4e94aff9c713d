-- A line and a log: what their events add together
use mathlib.Core.Path.{◌≡◌, refl, sym, ap, subst, ◌∙◌}
use mathlib.Core.List.{List, [], ◌∷◌}
use mathlib.Core.Option.{Option, none, some}
use Prim.Native.Nat.{ℕ, ◌+◌, ◌*◌, ◌-◌, ◌^◌, ◌<◌, ◌≤◌}
use native.Mathlib.Omega.{arith}
use lib.Dec.{eqb}
use lib.ListN.{length, drop, drop_of_length-le}
use mir.Syntax.{w64}
use mir.Val.{Fits}
use Rattle.meaning.specs.Tests.{choose}
use Rattle.jsontext.specs.declared.Fault.TheVariants.{BadField}
use Rattle.jsontext.specs.Reading.{Read, got, fault, blanks, want}
use Rattle.jsontext.specs.Values.{due}
use Rattle.jsontext.specs.Events.{Event, Field, field_readers, is_field, field_by, found, whole, complete, event, ended, line as line_of, cut, Log, events, refused, with_event, lines, log}
use Rattle.jsonread.specs.Told.{Blanks}
use Rattle.jsonread.proofs.Spelling.{never}
use Rattle.jsontrace.specs.Count.{nothing, ◌⊞◌, a_point, counted_event, counted_events}
use Rattle.jsonlines.specs.Events.{line_length, LogIs}
use Rattle.jsonlines.proofs.Lines.{line_from, end-within, line-long, cut_line, line_by, lines-is, no_lines}
use Rattle.jsonruns.specs.Good.{Good}
use Rattle.jsonruns.proofs.Runs.{then_of, due_of, wanted}
use Rattle.jsonruns.proofs.Signs.{sign_below, sign-left}
use Rattle.jsoncount.specs.declared.tallies.Tally.{Tally}
use Rattle.jsoncount.specs.Tally.{capped, Shows, Adds, CountedTo}
use Rattle.jsoncount.proofs.Sums.{adds_then, adds_none, adds-as, sum_comm, sum-none}
use Rattle.jsontotal.specs.Fields.{entries_read, entries_size}
use Rattle.jsontotal.specs.Totals.{LineAdds, LogCounted}
use Rattle.jsontotal.proofs.Apart.{Apart, object-apart}
use Rattle.jsontotal.proofs.Names.{listed-named}
use Rattle.jsontotal.proofs.Slots.{event-total}
use Rattle.jsontotal.proofs.Entries.{entries-listed}

-- ---- a line

ended_is : (v : Event) (s : List ℕ) {e : Event} {rest : List ℕ} → ended v s ≡ got e rest → v ≡ e
unfolding ended
ended_is v [] q = cc
ended_is v (c ∷ s) q = absurd (never q)

complete-is : (o : Option Event) (s : List ℕ) {e : Event} {rest : List ℕ} → complete o s ≡ got e rest → o ≡ some e
unfolding complete
complete-is none s q = absurd (never q)
complete-is (some v) s q = cc

-- the members that an event is made of
record Lined (s : List ℕ) (e : Event) : Type 0 where
  inside : List ℕ
  brace : blanks s ≡ 123 ∷ inside
  members : List (List ℕ × Field)
  left : List ℕ
  reads : entries_read inside ≡ got members left
  makes : whole (found members) ≡ some e

lined : (s : List ℕ) {e : Event} {rest : List ℕ} → line_of s ≡ got e rest → Lined s e
unfolding line_of event entries_read
lined s q =
    let a = then_of (due BadField (λ c. eqb c 123) event (blanks s)) q in
    let b = then_of (want 123 (blanks s)) (due_of BadField (λ c. eqb c 123) event (blanks s) a.is) in
    let m = then_of (entries_read b.left) b.next in
    record {
      inside = b.left;
      brace = (wanted 123 (blanks s) b.is).is;
      members = m.what;
      left = m.left;
      reads = m.is;
      makes = complete-is (whole (found m.what)) m.left m.next ∙ ap some (ended_is a.what (blanks a.left) a.next);
    }

apart_of : (s : List ℕ) (ms : List (List ℕ × Field)) {rest : List ℕ} → entries_read s ≡ got ms rest → Apart ms
unfolding entries_read
apart_of s ms e = object-apart (is_field field_readers) (field_by field_readers) s ms e

lined-total : {s : List ℕ} {e : Event} (l : Lined s e) → a_point ⊞ entries_size l.members ≡ counted_event e
lined-total {s} {e} l = event-total l.members e (apart_of l.inside l.members l.reads) (listed-named (entries-listed l.inside l.members l.left l.reads)) l.makes

module _ {line : List ℕ} {i : ℕ} (b : Blanks line 0 i) where
  at-members : {e : Event} (l : Lined line e) → entries_read (drop (i + 1) line) ≡ got l.members l.left
  at-members l = ap entries_read (sym (sign-left b l.brace)) ∙ l.reads

  pub line-entries : Good line 0 (line_of line) → Good line (i + 1) (entries_read (drop (i + 1) line))
  line-entries g =
      let l = lined line g.is in
      record { what = l.members; rest = l.left; within = omega (arith, sign_below b l.brace); is = at-members l }

  pub line-adds : {t u v : Tally} {k : ℕ} → Adds t a_point u → CountedTo line (i + 1) u v k (entries_read (drop (i + 1) line)) entries_size → LineAdds line t v
  line-adds m p = record {
    is = λ e rest q. let l = lined line q in adds-as (lined-total l) (adds_then m (p.adds l.members l.left (at-members l)));
  }

-- ---- all lines

-- what is counted from here on is counted of the whole
pub record Totalling (text : List ℕ) (tally : Tally) (at : ℕ) : Type 0 where
  pub what : List Event
  pub is : log text ≡ events what
  pub left : List Event
  pub reads : lines at (cut (drop at text)) ≡ events left
  pub shows : (f : Tally) → Adds tally (counted_events left) f → Shows f (counted_events what)

-- a new tally shows nothing
abbrev pub Zeros : Tally → Type 0
Zeros t = (t.strings ≡ 0) × ((t.bytes ≡ 0) × ((t.values ≡ 0) × ((t.members ≡ 0) × ((t.points ≡ 0) × (t.lists ≡ 0)))))

shows-none : {t : Tally} → Zeros t → Shows t nothing
unfolding capped choose nothing
shows-none h = record { strings = h.0; bytes = h.1.0; values = h.1.1.0; members = h.1.1.1.0; points = h.1.1.1.1.0; lists = h.1.1.1.1.1 }

pub total-start : {text : List ℕ} {t : Tally} → Zeros t → LogIs text → Totalling text t 0
unfolding log
total-start z g = record {
  what = g.what;
  is = g.is;
  left = g.what;
  reads = g.is;
  shows = λ f h. subst (Shows f) (sum_comm nothing (counted_events g.what) ∙ sum-none (counted_events g.what)) (h.shows nothing (shows-none z));
}

same-events : {l : Log} {es fs : List Event} → l ≡ events es → l ≡ events fs → es ≡ fs
same-events p q = cc

-- the first line, and those after it
record OneMore (l : List ℕ) (rest : Log) (left : List Event) : Type 0 where
  first : Event
  after : List ℕ
  others : List Event
  reads : line_of l ≡ got first after
  goes : rest ≡ events others
  all : left ≡ first ∷ others

one_more : (at : ℕ) (l : List ℕ) (ls : List (List ℕ)) {left : List Event} → line_by at l ls (line_of l) ≡ events left → OneMore l (lines (at + length l + 1) ls) left
one_more at l ls {left} q =
    go (line_of l) refl q
  where
    more : (v : Event) (rest : List ℕ) (o : Log) → lines (at + length l + 1) ls ≡ o → line_of l ≡ got v rest → with_event v o ≡ events left → OneMore l (lines (at + length l + 1) ls) left
    more v rest (events es) p e k = unfold with_event in record { first = v; after = rest; others = es; reads = e; goes = p; all = cc }
    more v rest (refused w i j) p e k = unfold with_event in absurd (let z : ◌≡◌ {A = ℕ} 0 1 = cc in omega arith)

    go : (m : Read Event) → line_of l ≡ m → line_by at l ls m ≡ events left → OneMore l (lines (at + length l + 1) ls) left
    go (got v rest) e k = more v rest (lines (at + length l + 1) ls) refl e k
    go (fault w i j) e k = absurd (let z : ◌≡◌ {A = ℕ} 0 1 = cc in omega arith)

module _ {text : List ℕ} {tally : Tally} {at : ℕ} (g : Totalling text tally at) where
  pub total-done : length text ≤ at → LogCounted text tally
  unfolding counted_events
  total-done h =
      let nil : g.left ≡ [] = same-events g.reads (no_lines at (drop at text) (drop_of_length-le text h)) in
      record { is = λ es q. subst (λ (es : List Event). Shows tally (counted_events es)) (same-events g.is q) (g.shows tally (rw nil (adds_none tally))) }

  module _ {end : ℕ} (h : at < length text) (e : end ≡ at + line_length (drop at text)) where
    next : OneMore (line_from text at end) (lines (at + length (line_from text at end) + 1) (cut (drop (end + 1) text))) g.left
    next = one_more at (line_from text at end) (cut (drop (end + 1) text)) (sym (ap (lines at) (cut_line text at end h e) ∙ lines-is at (line_from text at end) (cut (drop (end + 1) text))) ∙ g.reads)

    pub line-good : Good (line_from text at end) 0 (line_of (line_from text at end))
    line-good = record { what = next.first; rest = next.after; within = omega arith; is = next.reads }

    pub total-on : {u : Tally} → LineAdds (line_from text at end) tally u → Totalling text u (end + 1)
    unfolding counted_events
    total-on p =
        let z : at + length (line_from text at end) + 1 ≡ end + 1 = omega (arith, line-long text at end h e) in
        record {
          what = g.what;
          is = g.is;
          left = next.others;
          reads = ap (λ (n : ℕ). lines n (cut (drop (end + 1) text))) (sym z) ∙ next.goes;
          shows = λ f k. g.shows f (rw next.all (adds_then (p.is next.first next.after next.reads) k));
        }

    pub end_fits : length text * 1 < 2 ^ 63 → Fits w64 (end + 1)
    end_fits n = record { fits = omega (arith, end-within text at end h e) }

    pub total-less : length text - (end + 1) < length text - at
    total-less = omega arith
