-- A trace is a file of whole records, with one mark a list word: rule 1 of the writer holds of it
use Rattle.std.specs.Prelude.{◌≡◌, true, List, [], ◌∷◌, ◌++◌, map, get_or}
use Rattle.std.proofs.Math.Path.{refl, ap}
use Rattle.std.proofs.Common.{sym, ◌∙◌, zero-mul, suc-mul, length-append}
use Rattle.std.proofs.Math.Option.{Option, none, some}
use Prim.Native.Nat.{ℕ, zero, suc, ◌+◌, ◌*◌, ◌%◌, ◌<◌}
use native.Mathlib.Omega.{arith}
use Rattle.std.proofs.Math.ListN.{length, length-map}
use Rattle.meaning.specs.Tests.{pick}
use Rattle.meaning.specs.Case.{size, lists}
use Rattle.meaning.specs.Check.{record_bytes, bodies}
use Rattle.laws.specs.Lists.{Every}
use Rattle.encode.specs.Words.{packed}
use Rattle.encode.specs.Encode.{flat, placed, encoded}
use Rattle.encode.proofs.Laws.Words.{packed-long}
use Rattle.encode.proofs.Laws.Encode.{placed-long, encoded-long, encoded-size, encoded-bodies}
use Rattle.jsontext.specs.Values.{J, Null, Truth, Int, Text, EntityOf, Decimal, Array, Object, Parts, end, part}
use Rattle.jsontext.specs.Events.{Item, Event}
use Rattle.jsontrace.specs.Order.{arranged}
use Rattle.jsontrace.specs.Count.{counted_events, trace_bytes}
use Rattle.jsontrace.proofs.Laws.Counts.{tables-sized}
use Rattle.jsontrace.specs.Trace.{Tables, empty, ◌⊕◌, texts, value, members, point, lists as lists·Trace, Next, first, past, many, holding, after_run, value_adds, items_add, members_add, maybe_adds, entity_adds, entities_add, event_adds, events_add, bodies_of, tables_of, trace, trace_marks}

-- ---- records of so many words

abbrev pub Long : ℕ → List (List ℕ) → Type 0
Long w rs = Every (λ r. length r ≡ w) rs

pub long-append : (w : ℕ) (rs qs : List (List ℕ)) → Long w rs → Long w qs → Long w (rs ++ qs)
long-append w [] qs r q = q
long-append w (x ∷ rs) qs r q = (r.0, long-append w rs qs r.1 q)

pub long-flat : (w : ℕ) (rs : List (List ℕ)) → Long w rs → length (flat rs) ≡ length rs * w
unfolding flat
long-flat w [] r = mul_none w
  where
    mul_none : (w : ℕ) → 0 ≡ 0 * w
    mul_none w = sym (zero-mul w)
long-flat w (x ∷ rs) r = length-append x (flat rs) ∙ one_more (length x) (length rs) (length (flat rs)) r.0 (long-flat w rs r.1)
  where
    one_more : (a n f : ℕ) → a ≡ w → f ≡ n * w → a + f ≡ suc n * w
    one_more a n f e g = omega (arith, suc-mul n w)

-- values of four words, members of two, points of twelve
pub record Shaped (t : Tables) : Type 0 where
  pub values : Long 4 t.values
  pub members : Long 2 t.members
  pub points : Long 12 t.points

infixr 20 ◌then◌
pub ◌then◌ : {t u : Tables} → Shaped t → Shaped u → Shaped (t ⊕ u)
unfolding ◌⊕◌
◌then◌ {t} {u} p q = record {
  values = long-append 4 t.values u.values p.values q.values;
  members = long-append 2 t.members u.members p.members q.members;
  points = long-append 12 t.points u.points p.points q.points;
}

pub shaped-empty : Shaped empty
unfolding empty
shaped-empty = record { values = tt; members = tt; points = tt }

pub shaped-texts : (ts : List (List ℕ)) → Shaped (texts ts)
unfolding texts
shaped-texts ts = record { values = tt; members = tt; points = tt }

pub shaped-value : (kind a b : ℕ) → Shaped (value kind a b)
unfolding value
shaped-value kind a b = record { values = (refl, tt); members = tt; points = tt }

pub shaped-members : (ms : List (List ℕ)) → Long 2 ms → Shaped (members ms)
unfolding members
shaped-members ms h = record { values = tt; members = h; points = tt }

pub shaped-lists : (ws : List (ℕ × ℕ)) → Shaped (lists·Trace ws)
unfolding lists·Trace
shaped-lists ws = record { values = tt; members = tt; points = tt }

-- ---- values

-- the run of an array or object, and what its parts add
abbrev pub ShapedRun : List (List ℕ) × Tables → Type 0
ShapedRun r = Long 2 r.0 × Shaped r.1

pub shaped-holding : (kind : ℕ) (n : Next) (count : ℕ) (r : List (List ℕ) × Tables) → ShapedRun r → Shaped (holding kind n count r)
unfolding holding
shaped-holding kind n count r h = shaped-members r.0 h.0 then h.1 then shaped-value kind n.member count

mutual
  unfolding value_adds

  pub shaped : (j : J) (n : Next) → Shaped (value_adds j n)
  shaped Null n = shaped-value 0 0 0
  shaped (Truth b) n = shaped-value 1 _ 0
  shaped (Int z) n = shaped-value 2 _ _
  shaped (Decimal t) n = shaped-texts (t ∷ []) then shaped-value 3 n.string 0
  shaped (Text t) n = shaped-texts (t ∷ []) then shaped-value 4 n.string 0
  shaped (EntityOf t i) n = shaped-texts (t ∷ i ∷ []) then shaped-value 5 n.string (n.string + 1)
  shaped (Array ps) n = shaped-holding 6 n (many ps) _ (shaped-items ps (after_run n (many ps)))
  shaped (Object ps) n = shaped-holding 7 n (many ps) _ (shaped-parts ps (after_run n (many ps)))

  pub shaped-items : (ps : Parts) (n : Next) → ShapedRun (items_add ps n)
  shaped-items end n = (tt, shaped-empty)
  shaped-items (part m j ps) n =
      let more = shaped-items ps (past n (value_adds j n)) in
      ((refl, more.0), shaped j n then more.1)

  pub shaped-parts : (ps : Parts) (n : Next) → ShapedRun (members_add ps n)
  shaped-parts end n = (tt, shaped-empty)
  shaped-parts (part m j ps) n =
      let next = past n (texts (m ∷ [])) in
      let more = shaped-parts ps (past next (value_adds j next)) in
      ((refl, more.0), shaped-texts (m ∷ []) then shaped j next then more.1)

pub shaped-maybe : (o : Option J) (n : Next) → Shaped (maybe_adds o n)
unfolding maybe_adds
shaped-maybe none n = shaped-empty
shaped-maybe (some j) n = shaped j n

-- ---- events

pub shaped-entities : (is : List Item) (n : Next) → Shaped (entities_add is n)
unfolding entities_add entity_adds
shaped-entities [] n = shaped-empty
shaped-entities (i ∷ is) n = (shaped-texts _ then shaped _ _ then shaped-lists _) then shaped-entities is _

pub shaped-point : (a b c d e f g h i j k l : ℕ) → Shaped (point (a ∷ b ∷ c ∷ d ∷ e ∷ f ∷ g ∷ h ∷ i ∷ j ∷ k ∷ l ∷ []))
unfolding point
shaped-point a b c d e f g h i j k l = record { values = tt; members = tt; points = (refl, tt) }

pub shaped-event : (e : Event) (n : Next) → Shaped (event_adds e n)
unfolding event_adds
shaped-event e n =
    (shaped-texts _ then shaped-lists _)
    then shaped _ _ then shaped _ _ then shaped-maybe _ _ then shaped-maybe _ _ then shaped-entities _ _ then shaped-point _ _ _ _ _ _ _ _ _ _ _ _

shaped-events : (es : List Event) (n : Next) → Shaped (events_add es n)
unfolding events_add
shaped-events [] n = shaped-empty
shaped-events (e ∷ es) n = shaped-event e n then shaped-events es _

-- ---- the file

table-whole : (w : ℕ) (rs : List (List ℕ)) → Long w rs → length (packed (flat rs)) ≡ 4 * (length rs * w)
table-whole w rs h = packed-long (flat rs) ∙ ap (λ (n : ℕ). 4 * n) (long-flat w rs h)

module _ (t : Tables) (h : Shaped t) where
  whole : (k : ℕ) → k < 7 → length (get_or (bodies_of t) k []) % record_bytes k ≡ 0
  unfolding bodies_of pick
  whole zero l = omega (arith, packed-long (placed 0 t.texts), placed-long 0 t.texts)
  whole (suc zero) l = omega (arith, table-whole 4 t.values h.values)
  whole (suc (suc zero)) l = omega (arith, table-whole 2 t.members h.members)
  whole (suc (suc (suc zero))) l = omega (arith, table-whole 12 t.points h.points)
  whole (suc (suc (suc (suc zero)))) l = refl
  whole (suc (suc (suc (suc (suc zero))))) l = omega (arith, packed-long (map (λ w. w.0) t.lists))
  whole (suc (suc (suc (suc (suc (suc zero)))))) l = omega arith
  whole (suc (suc (suc (suc (suc (suc (suc k))))))) l = absurd (omega arith)

  file-bodies : bodies (encoded 0 (bodies_of t)) ≡ true
  file-bodies = encoded-bodies 0 (bodies_of t) (unfold bodies_of in refl) whole

  file-lists : lists (encoded 0 (bodies_of t)) ≡ length t.lists
  file-lists =
      let z : size (encoded 0 (bodies_of t)) 5 ≡ 4 * length t.lists = encoded-size 0 (bodies_of t) (unfold bodies_of in refl) 5 (omega arith) ∙ (unfold bodies_of in packed-long (map (λ w. w.0) t.lists) ∙ ap (λ (n : ℕ). 4 * n) (length-map t.lists (λ w. w.0))) in
      omega arith

-- what import gives passes rule 1 of the writer: it has tables, and exactly one mark a list word
pub trace-bodies : (es : List Event) → bodies (trace es) ≡ true
unfolding trace tables_of
trace-bodies es = file-bodies _ (shaped-events (map arranged es) first)

pub trace-marks : (es : List Event) → length (trace_marks es) ≡ lists (trace es)
unfolding trace tables_of trace_marks
trace-marks es = length-map (events_add (map arranged es) first).lists (λ w. w.1) ∙ sym (file-lists _ (shaped-events (map arranged es) first))

-- ---- how long it is

flat-seven : (a b c d f g : List ℕ) → length (flat (a ∷ b ∷ c ∷ d ∷ [] ∷ f ∷ g ∷ [])) ≡ length a + length b + length c + length d + length f + length g
unfolding flat
flat-seven a b c d f g =
    omega (arith, length-append a (b ++ (c ++ (d ++ (f ++ (g ++ []))))), length-append b (c ++ (d ++ (f ++ (g ++ [])))), length-append c (d ++ (f ++ (g ++ []))), length-append d (f ++ (g ++ [])), length-append f (g ++ []), length-append g [])

-- so many bytes as its events count
pub trace-long : (es : List Event) → length (trace es) ≡ trace_bytes (counted_events es)
unfolding trace trace_bytes
trace-long es =
    let t = tables_of es in
    let n = tables-sized es in
    let h : Shaped t = unfold tables_of in shaped-events (map arranged es) first in
    omega (arith, encoded-long 0 (bodies_of t) (unfold bodies_of in refl), parts-long t, packed-long (placed 0 t.texts), placed-long 0 t.texts, table-whole 4 t.values h.values, table-whole 2 t.members h.members, table-whole 12 t.points h.points, packed-long (map (λ w. w.0) t.lists), length-map t.lists (λ (w : ℕ × ℕ). w.0), n.strings, n.bytes, n.values, n.members, n.points, n.lists)
  where
    parts-long : (t : Tables) → length (flat (bodies_of t)) ≡ length (packed (placed 0 t.texts)) + length (packed (flat t.values)) + length (packed (flat t.members)) + length (packed (flat t.points)) + length (packed (map (λ w. w.0) t.lists)) + length (flat t.texts)
    parts-long t = unfold bodies_of in flat-seven (packed (placed 0 t.texts)) (packed (flat t.values)) (packed (flat t.members)) (packed (flat t.points)) (packed (map (λ w. w.0) t.lists)) (flat t.texts)

pub marks-long : (es : List Event) → length (trace_marks es) ≡ (counted_events es).lists
unfolding trace_marks
marks-long es = length-map (tables_of es).lists (λ w. w.1) ∙ (tables-sized es).lists
