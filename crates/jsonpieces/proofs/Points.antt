-- A point's record, and an event's tables by its parts
use mathlib.Core.Path.{◌≡◌, refl, sym, ap, subst, ◌∙◌}
use mathlib.Core.List.{List, [], ◌∷◌, ◌++◌, append-nil}
use Prim.Native.Nat.{ℕ, ◌+◌, ◌*◌, ◌%◌, ◌/◌, ◌≤◌}
use native.Mathlib.Omega.{arith}
use lib.ListN.{length, drop}
use mir.Val.{of_z}
use mir.Syntax.{w64}
use Rattle.laws.specs.Writing.{Writing}
use Rattle.encode.specs.Words.{packed}
use Rattle.encode.specs.Encode.{flat, placed}
use Rattle.encode.proofs.Laws.Words.{packed-long}
use Rattle.jsontext.specs.declared.Fault.TheVariants.{BadField}
use Rattle.jsontext.specs.Reading.{got}
use Rattle.jsontext.specs.Numbers.{number}
use Rattle.jsontext.specs.Values.{numeral}
use Rattle.jsontext.specs.Events.{Event, line as line_of}
use Rattle.jsontrace.specs.Order.{arranged, ordered_entities}
use Rattle.jsontrace.specs.Trace.{Tables, ◌⊕◌, point, Next as Next-as_Trace, past, low, high, entities_add, event_adds}
use Rattle.jsontrace.proofs.Laws.Trace.{Shaped, shaped-point}
use Rattle.jsonroom.specs.declared.Bodies.{Bodies}
use Rattle.jsonroom.specs.declared.Next.{Next}
use Rattle.jsonroom.proofs.Records.{words_more}
use Rattle.jsonruns.specs.Good.{Good}
use Rattle.jsonruns.proofs.Runs.{due_of}
use Rattle.jsonview.specs.Cells.{write, write-nothing}
use Rattle.jsonview.specs.Room.{Room, Shows, filled, beyond, numbers, Fit, Grown, Adds}
use Rattle.jsonview.specs.Showing.{in_points, same-room, same_next, with_none}
use Rattle.jsonview.proofs.Rows.{plus_assoc, shows-long}
use Rattle.jsonadds.specs.Place.{IntegerTold}
use Rattle.jsonentry.specs.declared.Fields.{Fields}
use Rattle.jsonentry.specs.Fields.{FieldsTold, FieldsStand}
use Rattle.jsonentry.specs.Entries.{LineDue, LineWritten}
use Rattle.jsonentry.specs.Marks.{MarkReady, MarkAdds}
use Rattle.jsonentry.specs.Marking.{mark-none, mark-then, mark-ready-first, mark-ready-second}
use Rattle.jsonpieces.specs.declared.EventValues.{EventValues}
use Rattle.jsonpieces.specs.declared.Body.{Body}
use Rattle.jsonpieces.specs.Parts.{names_add, fields_tables, fields_word, maybe_tables, maybe_word, both_tables, records_add, parties_add, values_add, front_add, last_add, body_add, PieceDue, BodyIs, BodyWritten, name_words, value_words, point_words, with_point, PointRoom, PointPut, words_of}
use Rattle.jsonpieces.proofs.Fronts.{past-past, shaped-body, ordered-long}

-- ---- words one after another

pub quad_written : {d w w' : List ℕ} {at : ℕ} (p q r s : ℕ) → at + 16 ≤ length d → Writing d w at (packed (p ∷ q ∷ [])) → Writing w w' (at + 8) (packed (r ∷ s ∷ [])) → Writing d w' at (packed (p ∷ q ∷ r ∷ s ∷ []))
quad_written {at = at} p q r s h f g = words_more (at + 8) (p ∷ q ∷ []) (r ∷ s ∷ []) (omega arith) (omega arith) f g

pub heading_written : {d w w' : List ℕ} {at x y : ℕ} (time : ℕ) (n : Next) (spaces : ℕ) → at + 24 ≤ length d → x ≡ time % 4294967296 → y ≡ time / 4294967296 → Writing d w at (packed (x ∷ y ∷ n.list ∷ spaces ∷ [])) → Writing w w' (at + 16) (packed ((n.string + spaces) ∷ (n.string + spaces + 1) ∷ [])) → Writing d w' at (packed (name_words time n spaces))
unfolding name_words
heading_written {d} {w} {w'} {at} {x} {y} time n spaces h ex ey f g =
    subst (λ (u : ℕ). Writing d w' at (packed (u ∷ time / 4294967296 ∷ n.list ∷ spaces ∷ (n.string + spaces) ∷ (n.string + spaces + 1) ∷ []))) ex
    (subst (λ (u : ℕ). Writing d w' at (packed (x ∷ u ∷ n.list ∷ spaces ∷ (n.string + spaces) ∷ (n.string + spaces + 1) ∷ []))) ey
    (words_more (at + 16) (x ∷ y ∷ n.list ∷ spaces ∷ []) ((n.string + spaces) ∷ (n.string + spaces + 1) ∷ []) (omega arith) (omega arith) f g))

pub ending-written : {d w w' : List ℕ} {at : ℕ} (r : EventValues) (list count : ℕ) → at + 24 ≤ length d → Writing d w at (packed (r.logged ∷ r.context ∷ r.principal ∷ r.resource ∷ [])) → Writing w w' (at + 16) (packed (list ∷ count ∷ [])) → Writing d w' at (packed (value_words r list count))
unfolding value_words
ending-written {at = at} r list count h f g = words_more (at + 16) (r.logged ∷ r.context ∷ r.principal ∷ r.resource ∷ []) (list ∷ count ∷ []) (omega arith) (omega arith) f g

pub point-put : {d w w' : List ℕ} {b : Bodies} {next : Next} (time : ℕ) (n : Next) (r : Body) → PointRoom d b next n r → Writing d w (b.points + 48 * next.point) (packed (name_words time n r.spaces)) → Writing w w' (b.points + 48 * next.point + 24) (packed (value_words r.values r.list r.count)) → PointPut d w' b next time n r (record { string = next.string; byte = next.byte; value = next.value; member = next.member; list = next.list; point = next.point + 1 })
unfolding point_words with_point name_words
point-put {b = b} {next = next} time n r h f g = record {
  is = words_more (b.points + 48 * next.point + 24) (name_words time n r.spaces) (value_words r.values r.list r.count) (omega (arith, h.fits)) (omega arith) f g;
  more = refl;
}

-- ---- a point

module _ {file after : List ℕ} {b : Bodies} {time : ℕ} {next n m : Next} (r : Body) (p : PointPut file after b next time n r m) where
  words_long : length (point_words time n r) ≡ 12
  unfolding point_words name_words value_words
  words_long = refl

  grown-point : {room : Room} → Shows file b room → Fit room next (point (point_words time n r)) → Grown after b room next (point (point_words time n r)) m
  unfolding filled beyond point with_point flat placed
  grown-point {room} s f =
      let all : packed (point_words time n r) ≡ packed (point_words time n r ++ []) = ap packed (sym (append-nil (point_words time n r))) in
      let z : 48 * next.point + length (packed (point_words time n r)) ≤ length room.points = omega (arith, f.points, packed-long (point_words time n r), words_long) in
      record {
        shows =
            subst (λ (q : Room). Shows after b q)
            (same-room (with_none room.strings (8 * next.string)) (with_none room.values (16 * next.value)) (with_none room.members (8 * next.member)) (ap (λ (l : List ℕ). write room.points (48 * next.point) l) all) (with_none room.lists (4 * next.list)) (sym (write-nothing room.text next.byte)))
            (in_points s (48 * next.point) p.is z);
        next = p.more ∙ same_next (omega arith) (omega arith) (omega arith) (omega arith) (omega arith) refl;
      }

  point-adds : Adds file after b next (point (point_words time n r)) m
  point-adds room s f = grown-point s f

-- ---- an event's tables, by its parts

regroup : (n l c p q e t : Tables) → n ⊕ (l ⊕ (c ⊕ (p ⊕ (q ⊕ (e ⊕ t))))) ≡ ((n ⊕ ((l ⊕ c) ⊕ (p ⊕ q))) ⊕ e) ⊕ t
regroup n l c p q e t = simp plus_assoc

-- the words, where the numbers after names, records and values are these
words_at : Event → Next-as_Trace → Next-as_Trace → Next-as_Trace → Next-as_Trace → ℕ → List ℕ
words_at e k k1 k3 k5 count =
    low e.time ∷ high e.time
    ∷ k.list ∷ length e.namespace
    ∷ (k.string + length e.namespace) ∷ (k.string + length e.namespace + 1)
    ∷ fields_word e.logged k1 ∷ fields_word e.context (past k1 (fields_tables e.logged k1))
    ∷ maybe_word e.principal k3 ∷ maybe_word e.resource (past k3 (maybe_tables e.principal k3))
    ∷ k5.list ∷ count ∷ []

whole_at : Event → Next-as_Trace → Next-as_Trace → Next-as_Trace → Next-as_Trace → ℕ → Tables
whole_at e k k1 k3 k5 count =
    names_add e k ⊕ fields_tables e.logged k1 ⊕ fields_tables e.context (past k1 (fields_tables e.logged k1))
    ⊕ maybe_tables e.principal k3 ⊕ maybe_tables e.resource (past k3 (maybe_tables e.principal k3))
    ⊕ entities_add (ordered_entities e.entities) k5
    ⊕ point (words_at e k k1 k3 k5 count)

-- after principal and resource
abbrev behind : Event → Next-as_Trace → Next-as_Trace
behind e k3 = past (past k3 (maybe_tables e.principal k3)) (maybe_tables e.resource (past k3 (maybe_tables e.principal k3)))

event-parts : (e : Event) (k k1 k3 : Next-as_Trace) → k1 ≡ past k (names_add e k) → k3 ≡ past (past k1 (fields_tables e.logged k1)) (fields_tables e.context (past k1 (fields_tables e.logged k1))) → event_adds (arranged e) k ≡ whole_at e k k1 k3 (behind e k3) (length (ordered_entities e.entities))
unfolding event_adds arranged names_add fields_tables maybe_tables fields_word maybe_word whole_at words_at
event-parts e k k1 k3 p q = rw (q, p)

module _ (e : Event) (k : Next-as_Trace) where
  abbrev k1 : Next-as_Trace
  k1 = past k (names_add e k)

  abbrev k3 : Next-as_Trace
  k3 = past k1 (records_add e k1)

  records-past : k3 ≡ past (past k1 (fields_tables e.logged k1)) (fields_tables e.context (past k1 (fields_tables e.logged k1)))
  unfolding records_add both_tables
  records-past = sym (past-past k1 (fields_tables e.logged k1) (fields_tables e.context (past k1 (fields_tables e.logged k1))))

  front-past : behind e k3 ≡ past k (front_add e k)
  unfolding front_add values_add parties_add both_tables
  front-past =
      past-past k3 (maybe_tables e.principal k3) (maybe_tables e.resource (past k3 (maybe_tables e.principal k3)))
      ∙ past-past k1 (records_add e k1) (parties_add e k3)
      ∙ past-past k (names_add e k) (values_add e k1)

  by_parts : whole_at e k k1 k3 (past k (front_add e k)) (length e.entities) ≡ body_add e k ⊕ point (words_of e k)
  unfolding whole_at words_at words_of body_add last_add front_add values_add records_add parties_add both_tables
  by_parts = regroup _ _ _ _ _ _ _

  pub event-is : event_adds (arranged e) k ≡ body_add e k ⊕ point (words_of e k)
  event-is =
      event-parts e k k1 k3 refl records-past
      ∙ ap (λ (x : Next-as_Trace). whole_at e k k1 k3 x (length (ordered_entities e.entities))) front-past
      ∙ ap (λ (c : ℕ). whole_at e k k1 k3 (past k (front_add e k)) c) (ordered-long e.entities)
      ∙ by_parts

-- ---- the words of the record are those of the event

same_twelve : {a b c d e f g h i j k l a' b' c' d' e' f' g' h' i' j' k' l' : ℕ} → a ≡ a' → b ≡ b' → c ≡ c' → d ≡ d' → e ≡ e' → f ≡ f' → g ≡ g' → h ≡ h' → i ≡ i' → j ≡ j' → k ≡ k' → l ≡ l' → (a ∷ b ∷ c ∷ d ∷ e ∷ f ∷ g ∷ h ∷ i ∷ j ∷ k ∷ l ∷ []) ≡ (a' ∷ b' ∷ c' ∷ d' ∷ e' ∷ f' ∷ g' ∷ h' ∷ i' ∷ j' ∷ k' ∷ l' ∷ [])
same_twelve p q r s t u v w x y z o = cc

words_are : (e : Event) (n : Next) (r : Body) {z : ℕ} → z ≡ of_z w64 e.time → BodyIs e (numbers n) r → point_words z n r ≡ words_of e (numbers n)
unfolding point_words name_words value_words words_of numbers low high
words_are e n r t i =
    let s = i.front.many in
    let four = i.front.four in
    same_twelve (ap (λ (v : ℕ). v % 4294967296) t) (ap (λ (v : ℕ). v / 4294967296) t) refl s (ap (λ (v : ℕ). n.string + v) s) (ap (λ (v : ℕ). n.string + v + 1) s) four.logged four.context four.principal four.resource i.list i.count

-- ---- a line

module _ {line names file marks : List ℕ} {b : Bodies} {n : Next} (d : LineDue line names file marks b n) where
  pub line-good : Good line 0 (line_of line)
  line-good = record { what = d.what; rest = d.rest; within = omega arith; is = d.is }

  abbrev body : Tables
  body = body_add d.what (numbers n)

  abbrev words : Tables
  words = point (words_of d.what (numbers n))

  event-ready : MarkReady file marks b n (body ⊕ words)
  event-ready = subst (λ (t : Tables). MarkReady file marks b n t) (event-is d.what (numbers n)) d.ready

  module _ {f : Fields} (t : FieldsTold line f) where
    line-fields : FieldsStand line f d.what
    line-fields = t.is d.what d.rest d.is

    time-is : number (drop f.time line) ≡ got d.what.time line-fields.time.rest
    time-is = due_of BadField numeral number (drop f.time line) line-fields.time.is

    pub line-time : Good line f.time (number (drop f.time line))
    line-time = record { what = d.what.time; rest = line-fields.time.rest; within = line-fields.time.within; is = time-is }

    pub line-body : PieceDue body_add line f names file marks b n
    line-body = record { what = d.what; rest = d.rest; is = d.is; fields = t; ready = mark-ready-first body words event-ready; cells = d.cells }

    module _ {names' mid marks' : List ℕ} {m : Next} {r : Body} (p : BodyWritten line names names' file mid marks marks' b n m r) where
      body-adds : MarkAdds file mid marks marks' b n body m
      body-adds = p.adds d.what d.rest d.is

      pub line-room : length mid ≡ length file → PointRoom mid b m n r
      unfolding point
      line-room l =
          let g = (mark-ready-second body words (shaped-body d.what (numbers n)) event-ready body-adds l).ready in
          record { fits = omega (arith, g.fit.points, shows-long g.shows, g.shows.lists, g.shows.text, g.shows.end); small = p.small }

shaped-words : (e : Event) (k : Next-as_Trace) → Shaped (point (words_of e k))
unfolding words_of
shaped-words e k = shaped-point _ _ _ _ _ _ _ _ _ _ _ _

module _ {line : List ℕ} {f : Fields} (t : FieldsTold line f) {z : ℕ} (i : IntegerTold line f.time z) {names names' file mid last marks marks' : List ℕ} {b : Bodies} {n next m : Next} {r : Body} (p : BodyWritten line names names' file mid marks marks' b n next r) (q : PointPut mid last b next z n r m) where
  module _ (e : Event) (rest : List ℕ) (s : line_of line ≡ got e rest) where
    stand : FieldsStand line f e
    stand = t.is e rest s

    read-time : number (drop f.time line) ≡ got e.time stand.time.rest
    read-time = due_of BadField numeral number (drop f.time line) stand.time.is

    event-words : point_words z n r ≡ words_of e (numbers n)
    event-words = words_are e n r (i.is e.time stand.time.rest read-time) (p.is e rest s)

    words-added : MarkAdds mid last marks' marks' b next (point (words_of e (numbers n))) m
    words-added = subst (λ (ws : List ℕ). MarkAdds mid last marks' marks' b next (point ws) m) event-words (unfold point in mark-none (point (point_words z n r)) refl (point-adds r q))

    event-added : MarkAdds file last marks marks' b n (event_adds (arranged e) (numbers n)) m
    event-added =
        subst (λ (u : Tables). MarkAdds file last marks marks' b n u m) (sym (event-is e (numbers n)))
        (mark-then (body_add e (numbers n)) (point (words_of e (numbers n))) (shaped-body e (numbers n)) (shaped-words e (numbers n)) (p.adds e rest s) words-added)

  pub line_wrote : LineWritten line names names' file last marks marks' b n m
  line_wrote = record { long = p.long; adds = event-added }
