-- An event reads back as written
use Rattle.std.specs.Prelude.{◌≡◌, Bool, true, ℕ, ◌≤◌, ℤ, leb}
use Rattle.std.proofs.Math.Path.{refl, ap}
use Rattle.std.proofs.Common.{sym, ◌∙◌, arith}
use mathlib.Core.List.{List, [], ◌∷◌, ◌++◌, append_assoc, append-nil, map}
use Rattle.std.proofs.Math.Option.{Option, none, some}
use Rattle.std.proofs.Math.Dec.{eqb}
use borrow.Author.Tests.{ne_eqb, leb-true}
use Rattle.meaning.specs.Tests.{◌and◌, ◌or◌, choose}
use Rattle.meaning.specs.Text.{first, next, ended, utf8}
use Rattle.meaning.specs.Equal.{is_digit, same_list}
use Rattle.laws.specs.Tests.{both, yes}
use Rattle.jsontext.specs.declared.Fault.{Fault}
use Rattle.jsontext.specs.declared.Fault.TheVariants.{BadField}
use Rattle.jsontext.specs.declared.Form.{Form}
use Rattle.jsontext.specs.Reading.{Read, got, then, mapped, is_blank, blanks, want}
use Rattle.jsontext.specs.Numbers.{number}
use Rattle.jsontext.specs.Values.{J, Object, Parts, numeral, due, text, array, form, value, bare, fields}
use Rattle.jsontext.specs.Events.{Item, Event, comma, closing, triple, unless_none, listed, Field, Time, Namespace, Action, Kind, Logged, Context, Principal, Resource, Entities, field_readers, is_field, field_by, with, found, have, whole, complete, event, ended as ended·Events, line}
use Rattle.jsontrace.specs.Text.{quoted, integer, after_first, commas, brackets, braces, shown, shown_members, maybe_pair, entity_text, field_texts, event_text, «time», «namespace», «action», «kind», «logged», «context», «principal», «resource», «entities»}
use Rattle.jsontrace.specs.Export.{not_form}
use Rattle.jsontrace.specs.Writable.{fits64, well, fresh, distinct, part_names, writable, writable_members, deep, deep_parts, writable_value, writable_maybe, all_well, writable_entities, writable_event}
use Rattle.jsontrace.proofs.Laws.Numbers.{ends_number, begun, number-text}
use Rattle.jsontrace.proofs.Laws.Parts.{Reads, no-blanks, Entry, texts_of, whats_of, array-text, Member, pairs_of, named_of, member_names, object-text}
use Rattle.jsontrace.proofs.Laws.Values.{text-reads, braces-reads, members-read, object-plain, value-reads, parts-read}

-- ---- readers over readers

mapped-reads : {A B : Type 0} (f : A → B) {item : List ℕ → Read A} {t : List ℕ} {a : A} → Reads item t a → Reads (λ s. mapped f (item s)) t (f a)
unfolding then
mapped-reads f {item} {t} {a} r = record {
  byte = r.byte;
  others = r.others;
  is = r.is;
  solid = r.solid;
  opens = r.opens;
  reads = λ rest e. ap (λ (m : Read _). mapped f m) (r.reads rest e);
}

due-reads : {A : Type 0} (w : Fault) (right : ℕ → Bool) {item : List ℕ → Read A} {t : List ℕ} {a : A} (r : Reads item t a) → right r.byte ≡ true → Reads (λ s. due w right item s) t a
unfolding due
due-reads w right {item} {t} {a} r h = record {
  byte = r.byte;
  others = r.others;
  is = r.is;
  solid = r.solid;
  opens = r.opens;
  reads = λ rest e.
      ap (λ (u : List ℕ). due w right item (u ++ rest)) r.is
      ∙ yes _ h
      ∙ ap (λ (u : List ℕ). item (u ++ rest)) (sym r.is)
      ∙ r.reads rest e;
}

-- ---- time

number-reads : (z : ℤ) → fits64 z ≡ true → Reads number (integer z) z
number-reads z f =
    let b = begun z in
    record {
      byte = b.byte;
      others = b.others;
      is = b.is;
      solid = unfold is_blank ◌or◌ in rw (ne_eqb b.byte 32 (λ e. absurd (omega (arith, b.low))), ne_eqb b.byte 9 (λ e. absurd (omega (arith, b.low))), ne_eqb b.byte 13 (λ e. absurd (omega (arith, b.low)))) refl;
      opens = ne_eqb b.byte 93 (λ e. absurd (omega (arith, b.high)));
      reads = λ rest e. number-text z rest f e;
    }

time-reads : (z : ℤ) → fits64 z ≡ true → Reads (λ s. due BadField numeral number s) (integer z) z
unfolding number-reads
time-reads z f = due-reads BadField numeral (number-reads z f) (unfold numeral in (begun z).numeral)

-- ---- arrays of strings and of entities

listed-reads : {A : Type 0} (inside : List ℕ → Read A) (ts : List (List ℕ)) (a : A) → ((rest : List ℕ) → inside (commas ts ++ 93 ∷ rest) ≡ got a rest) → Reads (listed inside) (brackets ts) a
listed-reads inside ts a r = record {
  byte = 91;
  others = commas ts ++ (93 ∷ []);
  is = unfold brackets in refl;
  solid = unfold is_blank ◌or◌ in refl;
  opens = refl;
  reads = λ rest e. (unfold brackets due choose want then in ap inside (append_assoc (commas ts) (93 ∷ []) rest) ∙ r rest);
}

-- strings
record WellOf (ts : List (List ℕ)) : Type 0 where
  entries : List (Entry text)
  texts : texts_of text entries ≡ map quoted ts
  whats : whats_of text entries ≡ ts

well_of : (ts : List (List ℕ)) → all_well ts ≡ true → WellOf ts
unfolding all_well
well_of [] h = record { entries = []; texts = refl; whats = refl }
well_of (t ∷ ts) h =
    let p = both (well t) (all_well ts) h in
    let more = well_of ts p.1 in
    record {
      entries = record { text = quoted t; what = t; reads = text-reads t p.0 } ∷ more.entries;
      texts = ap (λ (us : List (List ℕ)). quoted t ∷ us) more.texts;
      whats = ap (λ (us : List (List ℕ)). t ∷ us) more.whats;
    }

strings-read : (ts : List (List ℕ)) → all_well ts ≡ true → Reads (listed (array text)) (brackets (map quoted ts)) ts
strings-read ts h =
    let ws = well_of ts h in
    listed-reads (array text) (map quoted ts) ts (λ rest.
    ap (λ (us : List (List ℕ)). array text (commas us ++ 93 ∷ rest)) (sym ws.texts)
    ∙ array-text text ws.entries rest
    ∙ ap (λ (us : List (List ℕ)). got us rest) ws.whats)

-- ---- objects that are no forms

record Good (ps : Parts) : Type 0 where
  different : distinct [] (part_names ps) ≡ true
  no-form : not_form ps ≡ true
  members : writable_members ps ≡ true
  low : deep_parts ps ≤ 31

good : (ps : Parts) → writable_value (Object ps) ≡ true → Good ps
unfolding writable deep
good ps h =
    let a = both (writable (Object ps)) (leb (deep (Object ps)) 32) h in
    let b = both (distinct [] (part_names ps)) (not_form ps and writable_members ps) a.0 in
    let c = both (not_form ps) (writable_members ps) b.1 in
    record { different = b.0; no-form = c.0; members = c.1; low = omega (arith, leb-true (deep (Object ps)) 32 a.1) }

fields_read : (ps : Parts) → writable_value (Object ps) ≡ true → Reads (fields 31) (braces (shown_members ps)) ps
fields_read ps h =
    let g = good ps h in
    braces-reads (fields 31) (shown_members ps) ps (λ rest e. reads g rest)
  where
    reads : Good ps → (rest : List ℕ) → fields 31 (braces (shown_members ps) ++ rest) ≡ got ps rest
    reads g rest =
        opened rest
        ∙ ap (λ (f : Form). bare (λ u. value 31 u) f (123 ∷ (commas (shown_members ps) ++ 125 ∷ rest))) (object-plain ps rest g.no-form g.members)
        ∙ (unfold bare want choose then in members-read 31 ps (parts-read ps 31 g.members g.low) g.different rest)
      where
        opened : (rest : List ℕ) → fields 31 (braces (shown_members ps) ++ rest) ≡ bare (λ u. value 31 u) (form (commas (shown_members ps) ++ 125 ∷ rest)) (123 ∷ (commas (shown_members ps) ++ 125 ∷ rest))
        opened rest = unfold fields braces due choose want then in ap (λ (s : List ℕ). bare (λ u. value 31 u) (form s) (123 ∷ s)) (append_assoc (commas (shown_members ps)) (125 ∷ []) rest)

-- ---- entities

ends-comma : (s : List ℕ) → ends_number (44 ∷ s) ≡ true
unfolding ends_number ◌or◌ is_digit ◌and◌
ends-comma s = refl

ends-bracket : (s : List ℕ) → ends_number (93 ∷ s) ≡ true
unfolding ends_number ◌or◌ is_digit ◌and◌
ends-bracket s = refl

three : (a b c s : List ℕ) → commas (a ∷ b ∷ c ∷ []) ++ s ≡ a ++ 44 ∷ (b ++ 44 ∷ (c ++ s))
unfolding commas after_first
three a b c s =
    append_assoc a ((44 ∷ b) ++ ((44 ∷ c) ++ [])) s
    ∙ ap (λ (u : List ℕ). a ++ 44 ∷ u) (append_assoc b ((44 ∷ c) ++ []) s)
    ∙ ap (λ (u : List ℕ). a ++ 44 ∷ (b ++ 44 ∷ u)) (append_assoc c [] s)

comma-read : (s : List ℕ) → comma (blanks (44 ∷ s)) ≡ got 44 s
unfolding comma blanks is_blank ◌or◌ choose want
comma-read s = refl

closing-read : (s : List ℕ) → closing (blanks (93 ∷ s)) ≡ got 93 s
unfolding closing blanks is_blank ◌or◌ choose want
closing-read s = refl

abbrev entity_inside : List ℕ → Read Item
entity_inside t = unless_none (blanks t)

triple-text : (i : Item) → well i.type ≡ true → well i.id ≡ true → writable_value (Object i.attributes) ≡ true → (rest : List ℕ) → triple (quoted i.type ++ 44 ∷ (quoted i.id ++ 44 ∷ (braces (shown_members i.attributes) ++ 93 ∷ rest))) ≡ got i rest
unfolding triple then
triple-text i t d a rest =
    let x3 : List ℕ = 93 ∷ rest in
    let x2 : List ℕ = 44 ∷ (braces (shown_members i.attributes) ++ x3) in
    let x1 : List ℕ = 44 ∷ (quoted i.id ++ x2) in
    rw ((text-reads i.type t).reads x1 (ends-comma _), comma-read (quoted i.id ++ x2), no-blanks (text-reads i.id d) x2, (text-reads i.id d).reads x2 (ends-comma _), comma-read (braces (shown_members i.attributes) ++ x3), no-blanks (fields_read i.attributes a) x3, (fields_read i.attributes a).reads x3 (ends-bracket rest), closing-read rest) refl

entity-begins : (t s : List ℕ) → entity_inside (quoted t ++ s) ≡ triple (quoted t ++ s)
unfolding unless_none blanks is_blank ◌or◌ choose quoted
entity-begins t s = refl

entity-reads : (i : Item) → well i.type ≡ true → well i.id ≡ true → writable_value (Object i.attributes) ≡ true → Reads (listed entity_inside) (entity_text i) i
unfolding entity_text
entity-reads i t d a =
    listed-reads entity_inside (quoted i.type ∷ quoted i.id ∷ braces (shown_members i.attributes) ∷ []) i (λ rest.
    ap entity_inside (three (quoted i.type) (quoted i.id) (braces (shown_members i.attributes)) (93 ∷ rest))
    ∙ entity-begins i.type _
    ∙ triple-text i t d a rest)

record EntitiesOf (is : List Item) : Type 0 where
  entries : List (Entry (listed entity_inside))
  texts : texts_of (listed entity_inside) entries ≡ map entity_text is
  whats : whats_of (listed entity_inside) entries ≡ is

entities_of : (is : List Item) → writable_entities is ≡ true → EntitiesOf is
unfolding writable_entities
entities_of [] h = record { entries = []; texts = refl; whats = refl }
entities_of (i ∷ is) h =
    let p = both (well i.type and well i.id and writable_value (Object i.attributes)) (writable_entities is) h in
    let q = both (well i.type) (well i.id and writable_value (Object i.attributes)) p.0 in
    let r = both (well i.id) (writable_value (Object i.attributes)) q.1 in
    let more = entities_of is p.1 in
    record {
      entries = record { text = entity_text i; what = i; reads = entity-reads i q.0 r.0 r.1 } ∷ more.entries;
      texts = ap (λ (us : List (List ℕ)). entity_text i ∷ us) more.texts;
      whats = ap (λ (us : List Item). i ∷ us) more.whats;
    }

entities-read : (is : List Item) → writable_entities is ≡ true → Reads (listed (array (listed entity_inside))) (brackets (map entity_text is)) is
entities-read is h =
    let es = entities_of is h in
    listed-reads (array (listed entity_inside)) (map entity_text is) is (λ rest.
    ap (λ (us : List (List ℕ)). array (listed entity_inside) (commas us ++ 93 ∷ rest)) (sym es.texts)
    ∙ array-text (listed entity_inside) es.entries rest
    ∙ ap (λ (us : List Item). got us rest) es.whats)

-- ---- fields

abbrev known : List ℕ → Bool
known = is_field field_readers

abbrev item : List ℕ → List ℕ → Read Field
item = field_by field_readers

-- a field by its name
time-field : (z : ℤ) → fits64 z ≡ true → Member known item
unfolding is_field field_by field_readers same_list ◌and◌ ◌or◌ choose utf8 next first ended
time-field z h = record { name = «time»; text = integer z; what = Time z; well = refl; taken = refl; reads = mapped-reads Time (time-reads z h) }

namespace-field : (ts : List (List ℕ)) → all_well ts ≡ true → Member known item
unfolding is_field field_by field_readers same_list ◌and◌ ◌or◌ choose utf8 next first ended
namespace-field ts h = record { name = «namespace»; text = brackets (map quoted ts); what = Namespace ts; well = refl; taken = refl; reads = mapped-reads Namespace (strings-read ts h) }

action-field : (t : List ℕ) → well t ≡ true → Member known item
unfolding is_field field_by field_readers same_list ◌and◌ ◌or◌ choose utf8 next first ended
action-field t h = record { name = «action»; text = quoted t; what = Action t; well = refl; taken = refl; reads = mapped-reads Action (text-reads t h) }

kind-field : (t : List ℕ) → well t ≡ true → Member known item
unfolding is_field field_by field_readers same_list ◌and◌ ◌or◌ choose utf8 next first ended
kind-field t h = record { name = «kind»; text = quoted t; what = Kind t; well = refl; taken = refl; reads = mapped-reads Kind (text-reads t h) }

logged-field : (ps : Parts) → writable_value (Object ps) ≡ true → Member known item
unfolding is_field field_by field_readers same_list ◌and◌ ◌or◌ choose utf8 next first ended
logged-field ps h = record { name = «logged»; text = braces (shown_members ps); what = Logged ps; well = refl; taken = refl; reads = mapped-reads Logged (fields_read ps h) }

context-field : (ps : Parts) → writable_value (Object ps) ≡ true → Member known item
unfolding is_field field_by field_readers same_list ◌and◌ ◌or◌ choose utf8 next first ended
context-field ps h = record { name = «context»; text = braces (shown_members ps); what = Context ps; well = refl; taken = refl; reads = mapped-reads Context (fields_read ps h) }

value_32 : (j : J) → writable_value j ≡ true → Reads (value 32) (shown j) j
value_32 j h = let p = both (writable j) (leb (deep j) 32) h in value-reads j 32 p.0 (leb-true (deep j) 32 p.1)

principal-field : (j : J) → writable_value j ≡ true → Member known item
unfolding is_field field_by field_readers same_list ◌and◌ ◌or◌ choose utf8 next first ended
principal-field j h = record { name = «principal»; text = shown j; what = Principal j; well = refl; taken = refl; reads = mapped-reads Principal (value_32 j h) }

resource-field : (j : J) → writable_value j ≡ true → Member known item
unfolding is_field field_by field_readers same_list ◌and◌ ◌or◌ choose utf8 next first ended
resource-field j h = record { name = «resource»; text = shown j; what = Resource j; well = refl; taken = refl; reads = mapped-reads Resource (value_32 j h) }

entities-field : (is : List Item) → writable_entities is ≡ true → Member known item
unfolding is_field field_by field_readers same_list ◌and◌ ◌or◌ choose utf8 next first ended
entities-field is h = record { name = «entities»; text = brackets (map entity_text is); what = Entities is; well = refl; taken = refl; reads = mapped-reads Entities (entities-read is h) }

-- ---- events

record Sound (e : Event) : Type 0 where
  time : fits64 e.time ≡ true
  namespace : all_well e.namespace ≡ true
  action : well e.action ≡ true
  kind : well e.kind ≡ true
  logged : writable_value (Object e.logged) ≡ true
  context : writable_value (Object e.context) ≡ true
  principal : writable_maybe e.principal ≡ true
  resource : writable_maybe e.resource ≡ true
  entities : writable_entities e.entities ≡ true

sound : (e : Event) → writable_event e ≡ true → Sound e
unfolding writable_event
sound e h =
    let a = both (fits64 e.time) _ h in
    let b = both (all_well e.namespace) _ a.1 in
    let c = both (well e.action) _ b.1 in
    let d = both (well e.kind) _ c.1 in
    let f = both (writable_value (Object e.logged)) _ d.1 in
    let g = both (writable_value (Object e.context)) _ f.1 in
    let i = both (writable_maybe e.principal) _ g.1 in
    let j = both (writable_maybe e.resource) _ i.1 in
    record { time = a.0; namespace = b.0; action = c.0; kind = d.0; logged = f.0; context = g.0; principal = i.0; resource = j.0; entities = j.1 }

record EventOf (e : Event) : Type 0 where
  entries : List (Member known item)
  texts : pairs_of known item entries ≡ field_texts e
  different : distinct [] (member_names known item entries) ≡ true
  makes : whole (found (named_of known item entries)) ≡ some e

-- an event with these for principal and resource
abbrev within : Event → Option J → Option J → Event
within e p r = record { time = e.time; namespace = e.namespace; action = e.action; kind = e.kind; logged = e.logged; context = e.context; principal = p; resource = r; entities = e.entities }

abbrev first_six : (e : Event) → Sound e → List (Member known item) → List (Member known item)
first_six e h ms = time-field e.time h.time ∷ namespace-field e.namespace h.namespace ∷ action-field e.action h.action ∷ kind-field e.kind h.kind ∷ logged-field e.logged h.logged ∷ context-field e.context h.context ∷ ms

event-with : (e : Event) → Sound e → (p r : Option J) → writable_maybe p ≡ true → writable_maybe r ≡ true → EventOf (within e p r)
unfolding writable_maybe field_texts maybe_pair time-field namespace-field action-field kind-field logged-field context-field principal-field resource-field entities-field distinct fresh same_list ◌and◌ found with whole have
event-with e h none none hp hr = record {
  entries = first_six e h (entities-field e.entities h.entities ∷ []);
  texts = refl;
  different = refl;
  makes = refl;
}
event-with e h (some p) none hp hr = record {
  entries = first_six e h (principal-field p hp ∷ entities-field e.entities h.entities ∷ []);
  texts = refl;
  different = refl;
  makes = refl;
}
event-with e h none (some r) hp hr = record {
  entries = first_six e h (resource-field r hr ∷ entities-field e.entities h.entities ∷ []);
  texts = refl;
  different = refl;
  makes = refl;
}
event-with e h (some p) (some r) hp hr = record {
  entries = first_six e h (principal-field p hp ∷ resource-field r hr ∷ entities-field e.entities h.entities ∷ []);
  texts = refl;
  different = refl;
  makes = refl;
}

event_of_lem : (e : Event) → Sound e → EventOf e
event_of_lem e h = event-with e h e.principal e.resource h.principal h.resource

event-reads : (e : Event) → writable_event e ≡ true → (rest : List ℕ) → event (event_text e ++ rest) ≡ got e rest
unfolding event_text event then want braces choose complete
event-reads e h rest =
    let m = event_of_lem e (sound e h) in
    rw (append_assoc (commas (field_texts e)) (125 ∷ []) rest, ← m.texts, object-text known item m.entries rest m.different, m.makes) refl

-- a line
pub line_reads : (e : Event) → writable_event e ≡ true → line (event_text e) ≡ got e []
unfolding line then
line_reads e h =
    rw (begins, ← (append-nil (event_text e)), event-reads e h []) (unfold blanks ended·Events in refl)
  where
    begins : due BadField (λ c. eqb c 123) event (blanks (event_text e)) ≡ event (event_text e)
    begins = unfold event_text braces blanks is_blank ◌or◌ choose due in refl
