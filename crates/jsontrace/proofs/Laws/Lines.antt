-- A log reads back as written: no line holds the byte that ends it
use Rattle.std.specs.Prelude.{◌≡◌, Bool, not, ℕ, zero, suc, ◌+◌, ◌/◌, ◌%◌, ℤ, pos, negsuc, eqb, ltb, length}
use Rattle.std.proofs.Math.Path.{refl}
use Rattle.std.proofs.Common.{ap, ◌∙◌, arith}
use Rattle.std.proofs.Math.Bool.{true, false}
use mathlib.Core.List.{List, [], ◌∷◌, ◌++◌, map}
use Rattle.std.proofs.Math.Option.{Option, none, some}
use borrow.Author.Tests.{ltb-false, eqb-true, ne_eqb}
use Rattle.meaning.specs.Tests.{◌and◌, ◌or◌, choose}
use Rattle.meaning.specs.Text.{free}
use Rattle.laws.specs.Tests.{both, pass}
use Rattle.laws.specs.Lists.{Every}
use Rattle.encode.proofs.Laws.Read.{never}
use Rattle.jsontext.specs.Values.{J, Null, Truth, Int, Text, EntityOf, Decimal, Array, Object, Parts, end, part, __entity, «type», «id», __extn, «fn», «arg», «decimal»}
use Rattle.jsontext.specs.Events.{Item, Event, onto, cut, events, with_event, lines, log}
use Rattle.jsontrace.specs.Text.{hex_byte, escaped_byte, escaped, quoted, decimal_digits, natural, integer, after_first, commas, brackets, braces, pair, shown, shown_items, shown_members, maybe_pair, entity_text, field_texts, event_text, log_text, «time», «namespace», «action», «kind», «logged», «context», «principal», «resource», «entities»}
use Rattle.jsontrace.specs.Export.{exported, point_events}
use Rattle.jsontrace.specs.Writable.{writable_event, writable_events}
use Rattle.jsontrace.proofs.Laws.Events.{line_reads}

-- ---- texts without a line's end

pub record OneLine (t : List ℕ) : Type 0 where
  pub is : free 10 t ≡ true

one : (c : ℕ) (t : List ℕ) → (c ≡ 10 → ⊥) → OneLine t → OneLine (c ∷ t)
unfolding free
one c t n o = record { is = pass (ap not (ne_eqb c 10 n)) o.is }

nil : OneLine []
unfolding free
nil = record { is = refl }

append : (t u : List ℕ) → OneLine t → OneLine u → OneLine (t ++ u)
unfolding free
append [] u p q = q
append (c ∷ t) u p q =
    let h = both (not (eqb c 10)) (free 10 t) p.is in
    record { is = pass h.0 (append t u (record { is = h.1 }) q).is }

-- ---- strings and integers

hex_one : (d : ℕ) → hex_byte d ≡ 10 → ⊥
unfolding hex_byte
hex_one d e = go (ltb d 10) e
  where
    go : (b : Bool) → choose b (48 + d) (87 + d) ≡ 10 → ⊥
    go true e = unfold choose in absurd (omega (arith, e))
    go false e = unfold choose in absurd (omega (arith, e))

escaped-byte : (c : ℕ) → OneLine (escaped_byte c)
unfolding escaped_byte
escaped-byte c = go (eqb c 34 or eqb c 92) (ltb c 32) refl refl
  where
    marked : (q b : Bool) → eqb c 34 ≡ q → eqb c 92 ≡ b → (q or b) ≡ true → c ≡ 10 → ⊥
    marked true b e f h z = absurd (omega (arith, eqb-true c 34 e))
    marked false true e f h z = absurd (omega (arith, eqb-true c 92 f))
    marked false false e f h z = unfold ◌or◌ in never h

    go : (m l : Bool) → (eqb c 34 or eqb c 92) ≡ m → ltb c 32 ≡ l → OneLine (choose m (92 ∷ c ∷ []) (choose l (92 ∷ 117 ∷ 48 ∷ 48 ∷ hex_byte (c / 16) ∷ hex_byte (c % 16) ∷ []) (c ∷ [])))
    go true l e f = unfold choose in one 92 _ (λ z. absurd (omega (arith, z))) (one c _ (marked (eqb c 34) (eqb c 92) refl refl e) nil)
    go false true e f =
        unfold choose in
        one 92 _ (λ z. absurd (omega (arith, z)))
        (one 117 _ (λ z. absurd (omega (arith, z)))
        (one 48 _ (λ z. absurd (omega (arith, z)))
        (one 48 _ (λ z. absurd (omega (arith, z))) (one (hex_byte (c / 16)) _ (hex_one (c / 16)) (one (hex_byte (c % 16)) _ (hex_one (c % 16)) nil)))))
    go false false e f = unfold choose in one c [] (λ z. absurd (omega (arith, z, ltb-false c 32 f))) nil

escaped-one : (t : List ℕ) → OneLine (escaped t)
unfolding escaped
escaped-one [] = nil
escaped-one (c ∷ t) = append (escaped_byte c) (escaped t) (escaped-byte c) (escaped-one t)

quoted-one : (t : List ℕ) → OneLine (quoted t)
unfolding quoted
quoted-one t = one 34 _ (λ z. absurd (omega (arith, z))) (append (escaped t) (34 ∷ []) (escaped-one t) (one 34 [] (λ z. absurd (omega (arith, z))) nil))

digits-one : (turns n : ℕ) → OneLine (decimal_digits turns n)
unfolding decimal_digits
digits-one zero n = nil
digits-one (suc turns) n = go (ltb n 10) (digits-one turns (n / 10))
  where
    go : (b : Bool) → OneLine (decimal_digits turns (n / 10)) → OneLine (choose b ((48 + n) ∷ []) (decimal_digits turns (n / 10) ++ ((48 + n % 10) ∷ [])))
    go true o = unfold choose in one (48 + n) [] (λ z. absurd (omega (arith, z))) nil
    go false o = unfold choose in append _ _ o (one (48 + n % 10) [] (λ z. absurd (omega (arith, z))) nil)

integer-one : (z : ℤ) → OneLine (integer z)
unfolding integer natural
integer-one (pos n) = digits-one (suc n) n
integer-one (negsuc n) = one 45 _ (λ z. absurd (omega (arith, z))) (digits-one (suc (suc n)) (suc n))

-- ---- arrays and objects

after_one : (ts : List (List ℕ)) → Every OneLine ts → OneLine (after_first ts)
unfolding after_first
after_one [] p = nil
after_one (t ∷ ts) p = one 44 _ (λ z. absurd (omega (arith, z))) (append t (after_first ts) p.0 (after_one ts p.1))

commas-one : (ts : List (List ℕ)) → Every OneLine ts → OneLine (commas ts)
unfolding commas
commas-one [] p = nil
commas-one (t ∷ ts) p = append t (after_first ts) p.0 (after_one ts p.1)

brackets-one : (ts : List (List ℕ)) → Every OneLine ts → OneLine (brackets ts)
unfolding brackets
brackets-one ts p = one 91 _ (λ z. absurd (omega (arith, z))) (append (commas ts) (93 ∷ []) (commas-one ts p) (one 93 [] (λ z. absurd (omega (arith, z))) nil))

braces-one : (ts : List (List ℕ)) → Every OneLine ts → OneLine (braces ts)
unfolding braces
braces-one ts p = one 123 _ (λ z. absurd (omega (arith, z))) (append (commas ts) (125 ∷ []) (commas-one ts p) (one 125 [] (λ z. absurd (omega (arith, z))) nil))

pair_one : (n t : List ℕ) → OneLine t → OneLine (pair n t)
unfolding pair
pair_one n t p = append (quoted n) (58 ∷ t) (quoted-one n) (one 58 t (λ z. absurd (omega (arith, z))) p)

-- ---- values

null_one : OneLine (110 ∷ 117 ∷ 108 ∷ 108 ∷ [])
unfolding free ◌and◌
null_one = record { is = refl }

truth_one : (b : Bool) → OneLine (choose b (116 ∷ 114 ∷ 117 ∷ 101 ∷ []) (102 ∷ 97 ∷ 108 ∷ 115 ∷ 101 ∷ []))
unfolding free ◌and◌ choose
truth_one true = record { is = refl }
truth_one false = record { is = refl }

mutual
  unfolding shown

  shown-one : (j : J) → OneLine (shown j)
  shown-one Null = null_one
  shown-one (Truth b) = truth_one b
  shown-one (Int z) = integer-one z
  shown-one (Text t) = quoted-one t
  shown-one (EntityOf t i) = braces-one _ (pair_one __entity _ (braces-one _ (pair_one «type» _ (quoted-one t), (pair_one «id» _ (quoted-one i), tt))), tt)
  shown-one (Decimal t) = braces-one _ (pair_one __extn _ (braces-one _ (pair_one «fn» _ (quoted-one «decimal»), (pair_one «arg» _ (quoted-one t), tt))), tt)
  shown-one (Array ps) = brackets-one (shown_items ps) (items-one ps)
  shown-one (Object ps) = braces-one (shown_members ps) (members-one ps)

  items-one : (ps : Parts) → Every OneLine (shown_items ps)
  items-one end = tt
  items-one (part n j ps) = (shown-one j, items-one ps)

  members-one : (ps : Parts) → Every OneLine (shown_members ps)
  members-one end = tt
  members-one (part n j ps) = (pair_one n (shown j) (shown-one j), members-one ps)

-- ---- events

map-one : {A : Type 0} (f : A → List ℕ) (xs : List A) → ((x : A) → OneLine (f x)) → Every OneLine (map f xs)
map-one f [] h = tt
map-one f (x ∷ xs) h = (h x, map-one f xs h)

every_append : (ts us : List (List ℕ)) → Every OneLine ts → Every OneLine us → Every OneLine (ts ++ us)
every_append [] us p q = q
every_append (t ∷ ts) us p q = (p.0, every_append ts us p.1 q)

maybe-one : (n : List ℕ) (o : Option J) → Every OneLine (maybe_pair n o)
unfolding maybe_pair
maybe-one n none = tt
maybe-one n (some j) = (pair_one n (shown j) (shown-one j), tt)

entity-one : (i : Item) → OneLine (entity_text i)
unfolding entity_text
entity-one i = brackets-one _ (quoted-one i.type, (quoted-one i.id, (braces-one _ (members-one i.attributes), tt)))

fields-one : (e : Event) → Every OneLine (field_texts e)
unfolding field_texts
fields-one e = (
  pair_one «time» _ (integer-one e.time),
  (
    pair_one «namespace» _ (brackets-one _ (map-one quoted e.namespace quoted-one)),
    (
      pair_one «action» _ (quoted-one e.action),
      (
        pair_one «kind» _ (quoted-one e.kind),
        (
          pair_one «logged» _ (braces-one _ (members-one e.logged)),
          (
            pair_one «context» _ (braces-one _ (members-one e.context)),
            every_append (maybe_pair «principal» e.principal ++ maybe_pair «resource» e.resource) _ (every_append (maybe_pair «principal» e.principal) _ (maybe-one «principal» e.principal) (maybe-one «resource» e.resource)) (pair_one «entities» _ (brackets-one _ (map-one entity_text e.entities entity-one)), tt),
          ),
        ),
      ),
    ),
  ),
)

event-one : (e : Event) → OneLine (event_text e)
unfolding event_text
event-one e = braces-one (field_texts e) (fields-one e)

-- ---- lines

cut_line : (t s : List ℕ) → free 10 t ≡ true → cut (t ++ 10 ∷ s) ≡ t ∷ cut s
unfolding cut free
cut_line [] s h = unfold choose in refl
cut_line (c ∷ t) s h = go (eqb c 10) h (λ e. cut_line t s e)
  where
    go : (b : Bool) → (not b and free 10 t) ≡ true → (free 10 t ≡ true → cut (t ++ 10 ∷ s) ≡ t ∷ cut s) → choose b ([] ∷ cut (t ++ 10 ∷ s)) (onto c (cut (t ++ 10 ∷ s))) ≡ (c ∷ t) ∷ cut s
    go true h more = unfold ◌and◌ in never h
    go false h more = unfold ◌and◌ choose onto in rw (more h) refl

lines-read : (es : List Event) (at : ℕ) → writable_events es ≡ true → lines at (cut (log_text es)) ≡ events es
unfolding writable_events log_text with_event
lines-read [] at h = unfold cut lines in refl
lines-read (e ∷ es) at h =
    let p = both (writable_event e) (writable_events es) h in
    ap (lines at) (cut_line (event_text e) (log_text es) (event-one e).is)
    ∙ one_line e (cut (log_text es)) at p.0
    ∙ ap (with_event e) (lines-read es (at + length (event_text e) + 1) p.1)
  where
    one_line : (e : Event) (ls : List (List ℕ)) (at : ℕ) → writable_event e ≡ true → lines at (event_text e ∷ ls) ≡ with_event e (lines (at + length (event_text e) + 1) ls)
    one_line e ls at h = unfold lines in rw (line_reads e h, lines) refl

-- events that can be written are read as themselves
pub log-reads : (es : List Event) → writable_events es ≡ true → log (log_text es) ≡ events es
unfolding log
log-reads es h = lines-read es 0 h

-- so are a case's points
pub export_reads : (s : List ℕ) → writable_events (point_events s) ≡ true → log (exported s) ≡ events (point_events s)
unfolding exported
export_reads s h = log-reads (point_events s) h
