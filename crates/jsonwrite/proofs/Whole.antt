-- A file that a log's tables fill: room for them before, and the whole trace after
use mathlib.Core.Path.{◌≡◌, refl, sym, ap, ap₂, subst, ◌∙◌}
use mathlib.Core.List.{List, [], ◌∷◌, ◌++◌, append-nil, map}
use Prim.Native.Nat.{ℕ, ◌+◌, ◌*◌, ◌≤◌}
use native.Mathlib.Omega.{arith}
use lib.ListN.{length, take, drop, length-append, length-drop, take-append-drop}
use lib.Seq.{drop_at, length-take-le}
use Rattle.laws.specs.Writing.{Writing}
use Rattle.encode.specs.Words.{packed}
use Rattle.encode.specs.Encode.{flat, placed, encoded}
use Rattle.encode.specs.Write.{over}
use Rattle.encode.proofs.Laws.Words.{packed-long}
use Rattle.jsontext.specs.Events.{Event, Log, events, log}
use Rattle.jsontrace.specs.Count.{Count}
use Rattle.jsontrace.specs.Order.{arranged}
use Rattle.jsontrace.specs.Trace.{Tables, Next, first, past, event_adds, events_add, bodies_of, tables_of, trace, trace_marks}
use Rattle.jsontrace.proofs.Laws.Counts.{Sized, tables-sized}
use Rattle.jsontrace.proofs.Laws.Trace.{Shaped, ◌then◌, shaped-empty, shaped-event}
use Rattle.jsonroom.specs.declared.Bodies.{Bodies}
use Rattle.jsonroom.specs.declared.Next.{Next as Next-as-Room}
use Rattle.jsonroom.specs.Put.{spans, front, contents}
use Rattle.jsonview.specs.Cells.{write, writing, write-at}
use Rattle.jsonview.specs.Room.{Room, Shows, filled, Ready}
use Rattle.jsonview.specs.Filling.{strings-long, values-long, members-long, points-long, lists-long}
use Rattle.jsonview.specs.Showing.{same-room}
use Rattle.jsonentry.specs.Marks.{marks_of, MarkReady, MarkGrown}
use Rattle.jsonentry.specs.Entries.{unwritten, LogDue, LogWritten}
use Rattle.jsonwrite.specs.Bodies.{Laid}
use Rattle.jsonwrite.specs.Import.{TraceDue, TraceWritten}

-- ---- a file cut into its bodies

record Cut (d : List ℕ) (n : ℕ) : Type 0 where
  low : List ℕ
  high : List ℕ
  is : d ≡ low ++ high
  long : length low ≡ n
  left : n + length high ≡ length d

cut : (d : List ℕ) (n : ℕ) → n ≤ length d → Cut d n
cut d n h = record {
  low = take n d;
  high = drop n d;
  is = sym (take-append-drop n d);
  long = length-take-le n d h;
  left = omega (arith, length-drop n d);
}

module _ {k : Count} {b : Bodies} (l : Laid k b) (t : Tables) (s : Sized t k) where
  -- a file of so many bytes has room for so many records
  pub ready : {file : List ℕ} → length file ≡ b.end → b.end ≤ 4294967295 → Ready file b unwritten t
  unfolding unwritten
  ready {file} e w =
      record {
        room = record { strings = c1.low; values = c2.low; members = c3.low; points = c4.low; lists = c5.low; text = c6.low };
        shows = record {
          head = c0.low;
          tail = c6.high;
          is = c0.is ∙ ap (λ (x : List ℕ). c0.low ++ x) (c1.is ∙ ap (λ (x : List ℕ). c1.low ++ x) (c2.is ∙ ap (λ (x : List ℕ). c2.low ++ x) (c3.is ∙ ap (λ (x : List ℕ). c3.low ++ x) (c4.is ∙ ap (λ (x : List ℕ). c4.low ++ x) (c5.is ∙ ap (λ (x : List ℕ). c5.low ++ x) c6.is)))));
          strings = omega (arith, c0.long, l.strings);
          values = omega (arith, c1.long, l.strings, l.values);
          members = omega (arith, c2.long, l.members);
          points = omega (arith, c3.long, l.points);
          lists = omega (arith, c4.long, l.lists);
          text = omega (arith, c5.long, l.text);
          end = omega (arith, c6.long, l.end);
        };
        fit = record {
          strings = omega (arith, c1.long, s.strings);
          values = omega (arith, c2.long, s.values);
          members = omega (arith, c3.long, s.members);
          points = omega (arith, c4.long, s.points);
          lists = omega (arith, c5.long, s.lists);
          text = omega (arith, c6.long, s.bytes);
        };
        words = omega arith;
      }
    where
      c0 : Cut file 64
      c0 = cut file 64 (omega (arith, l.values, l.members, l.points, l.lists, l.text, l.end))

      c1 : Cut c0.high (8 * k.strings)
      c1 = cut c0.high (8 * k.strings) (omega (arith, c0.left, l.values, l.members, l.points, l.lists, l.text, l.end))

      c2 : Cut c1.high (16 * k.values)
      c2 = cut c1.high (16 * k.values) (omega (arith, c0.left, c1.left, l.values, l.members, l.points, l.lists, l.text, l.end))

      c3 : Cut c2.high (8 * k.members)
      c3 = cut c2.high (8 * k.members) (omega (arith, c0.left, c1.left, c2.left, l.values, l.members, l.points, l.lists, l.text, l.end))

      c4 : Cut c3.high (48 * k.points)
      c4 = cut c3.high (48 * k.points) (omega (arith, c0.left, c1.left, c2.left, c3.left, l.values, l.members, l.points, l.lists, l.text, l.end))

      c5 : Cut c4.high (4 * k.lists)
      c5 = cut c4.high (4 * k.lists) (omega (arith, c0.left, c1.left, c2.left, c3.left, c4.left, l.values, l.members, l.points, l.lists, l.text, l.end))

      c6 : Cut c5.high k.bytes
      c6 = cut c5.high k.bytes (omega (arith, c0.left, c1.left, c2.left, c3.left, c4.left, c5.left, l.values, l.members, l.points, l.lists, l.text, l.end))

-- ---- written from the front

write-all : (d new : List ℕ) → length new ≡ length d → write d 0 new ≡ new
write-all d new e = write-at new (record { low = []; cells = d; high = []; is = sym (append-nil d); place = refl; long = sym e }) ∙ append-nil new

write-front : (d new : List ℕ) → write d 0 new ≡ over new d
unfolding write over
write-front d new = let z : 0 + length new ≡ length new = omega arith in ap (λ (n : ℕ). new ++ drop n d) z

-- ---- bodies that their tables fill

unfoldable brimful : Tables → Room
brimful t = record {
  strings = packed (placed 0 t.texts);
  values = packed (flat t.values);
  members = packed (flat t.members);
  points = packed (flat t.points);
  lists = packed (map (λ w. w.0) t.lists);
  text = flat t.texts;
}

module _ {k : Count} {b : Bodies} (l : Laid k b) (t : Tables) (s : Sized t k) (v : Shaped t) where
  fills : {file : List ℕ} (r : Room) → Shows file b r → filled unwritten t r ≡ brimful t
  unfolding filled unwritten brimful
  fills r f =
      same-room
      (write-all r.strings (packed (placed 0 t.texts)) (omega (arith, strings-long 0 t.texts, s.strings, f.values, l.strings, l.values)))
      (write-all r.values (packed (flat t.values)) (omega (arith, values-long v, s.values, f.members, l.members)))
      (write-all r.members (packed (flat t.members)) (omega (arith, members-long v, s.members, f.points, l.points)))
      (write-all r.points (packed (flat t.points)) (omega (arith, points-long v, s.points, f.lists, l.lists)))
      (write-all r.lists (packed (map (λ w. w.0) t.lists)) (omega (arith, lists-long t.lists, s.lists, f.text, l.text)))
      (write-all r.text (flat t.texts) (omega (arith, s.bytes, f.end, l.end)))

  -- sixteen words
  words : {a c d e f g h i j m n o p q a' c' d' e' f' g' h' i' j' m' n' o' p' q' : ℕ} → a ≡ a' → c ≡ c' → d ≡ d' → e ≡ e' → f ≡ f' → g ≡ g' → h ≡ h' → i ≡ i' → j ≡ j' → m ≡ m' → n ≡ n' → o ≡ o' → p ≡ p' → q ≡ q' → ◌≡◌ {A = List ℕ} (1 ∷ 0 ∷ a ∷ c ∷ d ∷ e ∷ f ∷ g ∷ h ∷ i ∷ j ∷ m ∷ n ∷ o ∷ p ∷ q ∷ []) (1 ∷ 0 ∷ a' ∷ c' ∷ d' ∷ e' ∷ f' ∷ g' ∷ h' ∷ i' ∷ j' ∷ m' ∷ n' ∷ o' ∷ p' ∷ q' ∷ [])
  words z1 z2 z3 z4 z5 z6 z7 z8 z9 z10 z11 z12 z13 z14 = cc

  -- how long each body is
  one : length (packed (placed 0 t.texts)) ≡ 8 * k.strings
  one = omega (arith, strings-long 0 t.texts, s.strings)

  two : length (packed (flat t.values)) ≡ 16 * k.values
  two = omega (arith, values-long v, s.values)

  three : length (packed (flat t.members)) ≡ 8 * k.members
  three = omega (arith, members-long v, s.members)

  four : length (packed (flat t.points)) ≡ 48 * k.points
  four = omega (arith, points-long v, s.points)

  five : length (packed (map (λ w. w.0) t.lists)) ≡ 4 * k.lists
  five = omega (arith, lists-long t.lists, s.lists)

  -- the contents are those of the bodies
  contents-are : contents b ≡ 1 ∷ 0 ∷ placed 64 (bodies_of t)
  unfolding contents front spans bodies_of placed
  contents-are =
      words
      l.strings
      (omega (arith, one, l.strings, l.values))
      (omega (arith, one, l.values))
      (omega (arith, two, l.members))
      (omega (arith, one, two, l.values, l.members))
      (omega (arith, three, l.points))
      (omega (arith, one, two, three, l.values, l.members, l.points))
      (omega (arith, four, l.lists))
      (omega (arith, one, two, three, four, l.values, l.members, l.points, l.lists))
      refl
      (omega (arith, one, two, three, four, l.values, l.members, l.points, l.lists))
      (omega (arith, five, l.text))
      (omega (arith, one, two, three, four, five, l.values, l.members, l.points, l.lists, l.text))
      (omega (arith, s.bytes, l.end))

  none : (d : List ℕ) → length d ≡ 0 → d ≡ []
  none [] z = refl
  none (x ∷ d) z = absurd (omega arith)

  -- the contents over the head, and the bodies: the whole file
  pub whole : {file after out : List ℕ} (r : Room) → Shows file b r → Shows after b (filled unwritten t r) → length after ≡ b.end → Writing after out 0 (packed (contents b)) → out ≡ encoded 0 (bodies_of t)
  whole {file} {after} {out} r f g e w =
      writing w
      ∙ write-front after (packed (contents b))
      ∙ over-head
      ∙ joined
    where
      bodies : List ℕ → List ℕ
      bodies x = (brimful t).strings ++ ((brimful t).values ++ ((brimful t).members ++ ((brimful t).points ++ ((brimful t).lists ++ ((brimful t).text ++ x)))))

      joined : packed (1 ∷ 0 ∷ placed 64 (bodies_of t)) ++ bodies [] ≡ encoded 0 (bodies_of t)
      joined = unfold encoded bodies_of flat brimful in refl

      h : Shows after b (brimful t)
      h = subst (λ (x : Room). Shows after b x) (fills r f) g

      no-tail : h.tail ≡ []
      no-tail = none h.tail (omega (arith, e, simp length-append at (ap length h.is), h.strings, h.values, h.members, h.points, h.lists, h.text, h.end))

      sixteen : length (packed (contents b)) ≡ 64
      sixteen = packed-long (contents b) ∙ (unfold contents front spans in refl)

      rest : drop (length (packed (contents b))) after ≡ bodies []
      rest =
          ap₂ drop sixteen h.is
          ∙ drop_at h.head (bodies h.tail) 64 (h.strings ∙ l.strings)
          ∙ ap bodies no-tail

      over-head : over (packed (contents b)) after ≡ packed (1 ∷ 0 ∷ placed 64 (bodies_of t)) ++ bodies []
      over-head = unfold over in ap₂ (λ (x y : List ℕ). packed x ++ y) contents-are rest

-- ---- of a log

shaped-events : (es : List Event) (n : Next) → Shaped (events_add es n)
unfolding events_add
shaped-events [] n = shaped-empty
shaped-events (e ∷ es) n = shaped-event e n then shaped-events es (past n (event_adds e n))

shaped-log : (es : List Event) → Shaped (tables_of es)
unfolding tables_of
shaped-log es = shaped-events (map arranged es) first

module _ {text names file marks : List ℕ} {b : Bodies} (d : TraceDue text names file marks b) where
  for-log : MarkReady file marks b unwritten (tables_of d.what)
  unfolding unwritten
  for-log = record {
    ready = ready d.laid (tables_of d.what) (tables-sized d.what) d.long d.words;
    for-marks = omega (arith, d.for-marks, (tables-sized d.what).lists);
  }

  pub log-due : LogDue text names file marks b
  log-due = record { what = d.what; is = d.is; ready = for-log; cells = d.cells }

  pub trace-written : {names' after out marks' : List ℕ} {r : Next-as-Room} → LogWritten text names names' file after marks marks' b r → length after ≡ length file → Writing after out 0 (packed (contents b)) → TraceWritten text names names' out marks marks'
  trace-written {names'} {after} {out} {marks'} {r} p e w = record {
    long = p.long;
    is = λ es q. file-is ∙ ap trace (same es q);
    marked = λ es q. marks-are ∙ ap (λ (x : List Event). over (trace_marks x) marks) (same es q);
  }
    where
      same : (es : List Event) → log text ≡ events es → d.what ≡ es
      same es q = go d.is q
        where
          go : {m : Log} → m ≡ events d.what → m ≡ events es → d.what ≡ es
          go x y = cc

      before : MarkReady file marks b unwritten (tables_of d.what)
      before = for-log

      grown : MarkGrown after b before.ready.room unwritten (tables_of d.what) r marks marks'
      grown = p.adds d.what d.is before.ready.room before.ready.shows before.ready.fit before.for-marks

      file-is : out ≡ trace d.what
      file-is =
          unfold trace in whole d.laid (tables_of d.what) (tables-sized d.what) (shaped-log d.what) before.ready.room before.ready.shows grown.grown.shows (e ∙ d.long) w

      from_0 : write marks unwritten.list (marks_of (tables_of d.what)) ≡ write marks 0 (marks_of (tables_of d.what))
      from_0 = unfold unwritten in refl

      its-marks : marks_of (tables_of d.what) ≡ trace_marks d.what
      its-marks = unfold marks_of trace_marks in refl

      marks-are : marks' ≡ over (trace_marks d.what) marks
      marks-are =
          grown.marked
          ∙ from_0
          ∙ write-front marks (marks_of (tables_of d.what))
          ∙ ap (λ (x : List ℕ). over x marks) its-marks
