-- The values of an event, one after another; names and values; then entities
use mathlib.Core.Path.{◌≡◌, refl, sym, ap, subst, ◌∙◌}
use mathlib.Core.Bool.{Bool, true, false}
use mathlib.Core.List.{List, [], ◌∷◌, ◌++◌}
use Prim.Native.Nat.{ℕ, suc, ◌+◌, ◌-◌, ◌^◌, ◌<◌, ◌≤◌}
use native.Mathlib.Omega.{arith}
use lib.ListN.{length, drop, length-append}
use mir.Val.{Fits}
use mir.Syntax.{w64}
use Rattle.meaning.specs.Tests.{choose}
use Rattle.jsontext.specs.Reading.{got}
use Rattle.jsontext.specs.Values.{Object, fields, array}
use Rattle.jsontext.specs.Events.{Item, Event, line as line_of}
use Rattle.jsontrace.specs.Order.{ordered_members, item_before, insert_item, ordered_entities}
use Rattle.jsontrace.specs.Trace.{Tables, ◌⊕◌, texts, lists, Next as Next-as_Trace, past, last_value, naming, entity_adds, entities_add, value_adds}
use Rattle.jsontrace.proofs.Laws.Trace.{Shaped, ◌then◌, shaped-entities}
use Rattle.jsonroom.specs.declared.Bodies.{Bodies}
use Rattle.jsonroom.specs.declared.Next.{Next}
use Rattle.jsonruns.proofs.Runs.{same-got}
use Rattle.jsoncount.specs.Sizes.{entity_read}
use Rattle.jsonview.specs.Room.{Ready, Adds, numbers}
use Rattle.jsonview.specs.Filling.{numbers-beyond}
use Rattle.jsonview.proofs.Adding.{ready-first, ready-second, adds_then}
use Rattle.jsonview.proofs.Rows.{adds-next}
use Rattle.jsonentry.specs.declared.Fields.{Fields}
use Rattle.jsonentry.specs.Fields.{Stands, MayStand, FieldsStand}
use Rattle.jsonentry.specs.Entries.{EntitiesDue, EntitiesWritten}
use Rattle.jsonentry.specs.Marks.{MarkReady, MarkAdds}
use Rattle.jsonentry.specs.Marking.{mark-none, mark-then, mark-ready-first, mark-ready-second}
use Rattle.jsonentry.specs.NoLists.{no-lists, no-lists-maybe, no-lists-then}
use Rattle.jsonentities.specs.Lists.{ready-lists, mark-numbers}
use Rattle.jsonfields.specs.Few.{cells-listed}
use Rattle.jsonpieces.specs.declared.EventValues.{EventValues}
use Rattle.jsonpieces.specs.Parts.{names_add, NamesDue, NamesWritten, fields_tables, fields_word, maybe_tables, maybe_word, both_tables, PairDue, PairWritten, records_add, parties_add, values_add, ValuesAre, ValuesDue, ValuesWritten, front_add, last_add, body_add, PieceDue, LastWritten, FrontIs, FrontWritten, BodyIs, BodyWritten}
use Rattle.jsonpieces.proofs.Values.{shaped-fields, shaped_might}
use Rattle.jsonpieces.proofs.Names.{shaped-names, inside_of, listed_below}

-- ---- numbers past tables and more tables

same_numbers : {a a' b b' c c' d d' : ℕ} → a ≡ a' → b ≡ b' → c ≡ c' → d ≡ d' → ◌≡◌ {A = Next-as_Trace} (record { string = a; value = b; member = c; list = d }) (record { string = a'; value = b'; member = c'; list = d' })
same_numbers p q r s = cc

pub past-past : (k : Next-as_Trace) (t u : Tables) → past (past k t) u ≡ past k (t ⊕ u)
unfolding past ◌⊕◌
past-past k t u =
    same_numbers (omega (arith, length-append t.texts u.texts)) (omega (arith, length-append t.values u.values)) (omega (arith, length-append t.members u.members)) (omega (arith, length-append t.lists u.lists))

-- ---- values

shaped-records : (e : Event) (k : Next-as_Trace) → Shaped (records_add e k)
unfolding records_add both_tables
shaped-records e k = shaped-fields e.logged k then shaped-fields e.context _

shaped-parties : (e : Event) (k : Next-as_Trace) → Shaped (parties_add e k)
unfolding parties_add both_tables
shaped-parties e k = shaped_might e.principal k then shaped_might e.resource _

pub shaped-values : (e : Event) (k : Next-as_Trace) → Shaped (values_add e k)
unfolding values_add
shaped-values e k = shaped-records e k then shaped-parties e _

no-lists-values : (e : Event) (k : Next-as_Trace) → (values_add e k).lists ≡ []
unfolding values_add records_add parties_add both_tables fields_tables maybe_tables
no-lists-values e k = no-lists-then _ _ (no-lists-then _ _ (no-lists _ _) (no-lists _ _)) (no-lists-then _ _ (no-lists-maybe _ _) (no-lists-maybe _ _))

module _ {line : List ℕ} {f : Fields} {names file : List ℕ} {b : Bodies} {n : Next} (d : ValuesDue line f names file b n) where
  value-fields : FieldsStand line f d.what
  value-fields = d.fields.is d.what d.rest d.is

  abbrev records : Tables
  records = records_add d.what (numbers n)

  abbrev parties : Tables
  parties = parties_add d.what (past (numbers n) records)

  all-ready : Ready file b n (records ⊕ parties)
  unfolding values_add
  all-ready = d.ready

  records-ready : Ready file b n records
  records-ready = ready-first records parties all-ready

  pub values-records : PairDue (Stands line f.logged (fields 31)) (Stands line f.context (fields 31)) fields_tables line names file b n
  values-records = record { first = d.what.logged; second = d.what.context; first-is = value-fields.logged; second_is = value-fields.context; ready = unfold records_add in records-ready; cells = d.cells }

  module _ {names₁ mid : List ℕ} {x-next : Next} {x-first : ℕ} {x-second : ℕ} (p : PairWritten (Stands line f.logged (fields 31)) (Stands line f.context (fields 31)) fields_tables fields_word names names₁ file mid b n x-next x-first x-second) where
    records-added : Adds file mid b n records x-next
    unfolding records_add
    records-added = p.adds d.what.logged d.what.context value-fields.logged value-fields.context

    records-numbers : numbers x-next ≡ past (numbers n) records
    records-numbers = ap numbers (adds-next records-ready records-added) ∙ numbers-beyond n records

    parties-ready : length mid ≡ length file → Ready mid b x-next (parties_add d.what (numbers x-next))
    parties-ready l = subst (λ (k : Next-as_Trace). Ready mid b x-next (parties_add d.what k)) (sym records-numbers) (ready-second records parties (shaped-records d.what (numbers n)) all-ready records-added l)

    pub values-parties : length mid ≡ length file → PairDue (MayStand line f.principal) (MayStand line f.resource) maybe_tables line names₁ mid b x-next
    values-parties l = record {
      first = d.what.principal;
      second = d.what.resource;
      first-is = value-fields.principal;
      second_is = value-fields.resource;
      ready = unfold parties_add in parties-ready l;
      cells = let e : length names₁ ≡ length names = p.long in omega (arith, d.cells, e);
    }

    module _ {names₂ last : List ℕ} {y-next : Next} {y-first : ℕ} {y-second : ℕ} (q : PairWritten (MayStand line f.principal) (MayStand line f.resource) maybe_tables maybe_word names₁ names₂ mid last b x-next y-next y-first y-second) where
      parties-added : Adds mid last b x-next parties y-next
      parties-added =
          subst (λ (k : Next-as_Trace). Adds mid last b x-next (parties_add d.what k) y-next) records-numbers
          (unfold parties_add in q.adds d.what.principal d.what.resource value-fields.principal value-fields.resource)

      values-added : Adds file last b n (values_add d.what (numbers n)) y-next
      unfolding values_add
      values-added = adds_then records parties (shaped-records d.what (numbers n)) (shaped-parties d.what _) records-added parties-added

      abbrev four : EventValues
      four = record { logged = x-first; context = x-second; principal = y-first; resource = y-second }

      four_is : ValuesAre d.what (numbers n) four
      four_is = record {
        logged = p.first-is d.what.logged value-fields.logged;
        context = p.second_is d.what.logged d.what.context value-fields.logged value-fields.context;
        principal = subst (λ (k : Next-as_Trace). y-first ≡ maybe_word d.what.principal k) records-numbers (q.first-is d.what.principal value-fields.principal);
        resource = subst (λ (k : Next-as_Trace). y-second ≡ maybe_word d.what.resource (past k (maybe_tables d.what.principal k))) records-numbers (q.second_is d.what.principal d.what.resource value-fields.principal value-fields.resource);
      }

      pub values-wrote : ValuesWritten line names names₂ file last b n y-next (record { logged = x-first; context = x-second; principal = y-first; resource = y-second })
      values-wrote = record {
        long = q.long ∙ p.long;
        small = record { logged = p.first_small; context = p.second-small; principal = q.first_small; resource = q.second-small };
        adds = λ e rest s. subst (λ (v : Event). Adds file last b n (values_add v (numbers n)) y-next) (same-got d.is s) values-added;
        is = λ e rest s. subst (λ (v : Event). ValuesAre v (numbers n) four) (same-got d.is s) four_is;
        numbers-are = λ e rest s. subst (λ (v : Event). numbers y-next ≡ past (numbers n) (values_add v (numbers n))) (same-got d.is s) (ap numbers (adds-next d.ready values-added) ∙ numbers-beyond n (values_add d.what (numbers n)));
      }

-- ---- names, then values

pub shaped-front : (e : Event) (k : Next-as_Trace) → Shaped (front_add e k)
unfolding front_add
shaped-front e k = shaped-names e k then shaped-values e _

module _ {line : List ℕ} {f : Fields} {names file marks : List ℕ} {b : Bodies} {n : Next} (d : PieceDue front_add line f names file marks b n) where
  abbrev named : Tables
  named = names_add d.what (numbers n)

  abbrev valued : Tables
  valued = values_add d.what (past (numbers n) named)

  front-ready : MarkReady file marks b n (named ⊕ valued)
  unfolding front_add
  front-ready = d.ready

  named-ready : MarkReady file marks b n named
  named-ready = mark-ready-first named valued front-ready

  pub front-names : NamesDue line f file marks b n
  front-names = record { what = d.what; rest = d.rest; is = d.is; fields = d.fields; ready = named-ready }

  module _ {mid marks' : List ℕ} {next : Next} (p : NamesWritten line file mid marks marks' b n next) where
    named-added : MarkAdds file mid marks marks' b n named next
    named-added = p.adds d.what d.rest d.is

    named-numbers : numbers next ≡ past (numbers n) named
    named-numbers = mark-numbers named named-ready named-added

    pub front-values : length mid ≡ length file → ValuesDue line f names mid b next
    front-values l = record {
      what = d.what;
      rest = d.rest;
      is = d.is;
      fields = d.fields;
      ready = subst (λ (k : Next-as_Trace). Ready mid b next (values_add d.what k)) (sym named-numbers) (mark-ready-second named valued (shaped-names d.what (numbers n)) front-ready named-added l).ready;
      cells = d.cells;
    }

-- the numbers are known where it is known what was read
module _ {line names names' file mid last marks marks' : List ℕ} {b : Bodies} {n next : Next} (p : NamesWritten line file mid marks marks' b n next) {m : Next} {r : EventValues} (q : ValuesWritten line names names' mid last b next m r) where
  pub front-from : n.list ≤ next.list
  front-from = p.from

  module _ (e : Event) (rest : List ℕ) (s : line_of line ≡ got e rest) where
    abbrev named_of : Tables
    named_of = names_add e (numbers n)

    abbrev valued_of : Tables
    valued_of = values_add e (past (numbers n) named_of)

    after-names : numbers next ≡ past (numbers n) named_of
    after-names = p.numbers-are e rest s

    valued-added : Adds mid last b next valued_of m
    valued-added = subst (λ (k : Next-as_Trace). Adds mid last b next (values_add e k) m) after-names (q.adds e rest s)

    front-added : MarkAdds file last marks marks' b n (front_add e (numbers n)) m
    unfolding front_add
    front-added = mark-then named_of valued_of (shaped-names e (numbers n)) (shaped-values e _) (p.adds e rest s) (mark-none valued_of (no-lists-values e _) valued-added)

    front-numbers : numbers m ≡ past (numbers n) (front_add e (numbers n))
    unfolding front_add
    front-numbers = q.numbers-are e rest s ∙ ap (λ (k : Next-as_Trace). past k (values_add e k)) after-names ∙ past-past (numbers n) named_of valued_of

    front-is : FrontIs e (numbers n) (next.list - n.list) r
    front-is = record { many = p.spaces e rest s; four = subst (λ (k : Next-as_Trace). ValuesAre e k r) after-names (q.is e rest s) }

  pub front-wrote : FrontWritten line names names' file last marks marks' b n m (next.list - n.list) r
  front-wrote = record { long = q.long; small = record { names = p.small; four = q.small }; numbers-are = front-numbers; adds = front-added; is = front-is }

-- ---- then entities

insert_long : (x : Item) (xs : List Item) → length (insert_item x xs) ≡ suc (length xs)
unfolding insert_item choose
insert_long x [] = refl
insert_long x (y ∷ ys) =
    go (item_before y x) (insert_long x ys)
  where
    go : (c : Bool) → length (insert_item x ys) ≡ suc (length ys) → length (choose c (y ∷ insert_item x ys) (x ∷ y ∷ ys)) ≡ suc (suc (length ys))
    go true e = ap suc e
    go false e = refl

pub ordered-long : (is : List Item) → length (ordered_entities is) ≡ length is
unfolding ordered_entities
ordered-long [] = refl
ordered-long (x ∷ xs) = insert_long (record { type = x.type; id = x.id; attributes = ordered_members x.attributes }) (ordered_entities xs) ∙ ap suc (ordered-long xs)

entity-lists : (t u : Tables) (w : ℕ × ℕ) (ws : List (ℕ × ℕ)) → 1 ≤ length (t ⊕ u ⊕ lists (ws ++ (w ∷ []))).lists
unfolding ◌⊕◌ lists
entity-lists t u w ws = omega (arith, length-append t.lists (u.lists ++ (ws ++ (w ∷ []))), length-append u.lists (ws ++ (w ∷ [])), length-append ws (w ∷ []))

lists-both : (t u : Tables) → length (t ⊕ u).lists ≡ length t.lists + length u.lists
unfolding ◌⊕◌
lists-both t u = length-append t.lists u.lists

entity-one : (i : Item) (k : Next-as_Trace) → 1 ≤ length (entity_adds i k).lists
unfolding entity_adds
entity-one i k =
    let names = texts (i.type ∷ i.id ∷ []) in
    let t = value_adds (Object i.attributes) (past k names) in
    entity-lists names t (last_value k t, 0) (naming k.string 2)

entities-lists : (is : List Item) (k : Next-as_Trace) → length is ≤ length (entities_add is k).lists
unfolding entities_add
entities-lists [] k = omega arith
entities-lists (i ∷ is) k =
    omega (arith, entity-one i k, lists-both (entity_adds i k) (entities_add is (past k (entity_adds i k))), entities-lists is (past k (entity_adds i k)))

pub shaped-last : (e : Event) (k : Next-as_Trace) → Shaped (last_add e k)
unfolding last_add
shaped-last e k = shaped-entities _ _

pub shaped-body : (e : Event) (k : Next-as_Trace) → Shaped (body_add e k)
unfolding body_add
shaped-body e k = shaped-front e k then shaped-last e _

module _ {line : List ℕ} {f : Fields} {names file marks : List ℕ} {b : Bodies} {n : Next} (d : PieceDue last_add line f names file marks b n) where
  last-fields : FieldsStand line f d.what
  last-fields = d.fields.is d.what d.rest d.is

  entities-here : f.entities < length line
  entities-here = listed_below (array entity_read) last-fields.entities

  pub last_fit : length line < 2 ^ 64 → Fits w64 (f.entities + 1)
  last_fit h = record { fits = omega (arith, entities-here, h) }

  abbrev inside : Stands line (f.entities + 1) (array entity_read) d.what.entities
  inside = inside_of (array entity_read) last-fields.entities

  last-ready : MarkReady file marks b n (entities_add (ordered_entities d.what.entities) (numbers n))
  unfolding last_add
  last-ready = d.ready

  pub last-entities : EntitiesDue line (f.entities + 1) (array entity_read (drop (f.entities + 1) line)) names file marks b n
  last-entities = record { what = d.what.entities; rest = inside.rest; within = inside.within; is = inside.is; ready = last-ready; spare = cells-listed d.cells last-fields.entities }

  module _ {names' after marks' : List ℕ} {r-next : Next} {r-count : ℕ} (q : EntitiesWritten (array entity_read (drop (f.entities + 1) line)) names names' file after marks marks' b n r-next r-count) where
    many-are : r-count ≡ length d.what.entities
    many-are = q.many d.what.entities inside.rest inside.is

    last-added : MarkAdds file after marks marks' b n (last_add d.what (numbers n)) r-next
    unfolding last_add
    last-added = q.adds d.what.entities inside.rest inside.is

    pub last-wrote : LastWritten line names names' file after marks marks' b n r-next r-count
    last-wrote =
        let h = ready-lists last-ready.ready in
        let w = last-ready.ready.words in
        record {
          long = q.long;
          list = omega (arith, h, w);
          small = omega (arith, h, w, many-are, ordered-long d.what.entities, entities-lists (ordered_entities d.what.entities) (numbers n));
          adds = λ e rest s. subst (λ (v : Event). MarkAdds file after marks marks' b n (last_add v (numbers n)) r-next) (same-got d.is s) last-added;
          count-is = λ e rest s. subst (λ (v : Event). r-count ≡ length v.entities) (same-got d.is s) many-are;
        }

-- ---- all of them

module _ {line : List ℕ} {f : Fields} {names file marks : List ℕ} {b : Bodies} {n : Next} (d : PieceDue body_add line f names file marks b n) where
  abbrev fronted : Tables
  fronted = front_add d.what (numbers n)

  abbrev ended : Next-as_Trace → Tables
  ended k = last_add d.what k

  body-ready : MarkReady file marks b n (fronted ⊕ ended (past (numbers n) fronted))
  unfolding body_add
  body-ready = d.ready

  pub body-front : PieceDue front_add line f names file marks b n
  body-front = record { what = d.what; rest = d.rest; is = d.is; fields = d.fields; ready = mark-ready-first fronted (ended (past (numbers n) fronted)) body-ready; cells = d.cells }

  module _ {names₁ mid marks₁ : List ℕ} {m : Next} {spaces : ℕ} {r : EventValues} (p : FrontWritten line names names₁ file mid marks marks₁ b n m spaces r) where
    pub body-last : length mid ≡ length file → PieceDue last_add line f names₁ mid marks₁ b m
    body-last l = record {
      what = d.what;
      rest = d.rest;
      is = d.is;
      fields = d.fields;
      ready =
          subst (λ (k : Next-as_Trace). MarkReady mid marks₁ b m (ended k)) (sym (p.numbers-are d.what d.rest d.is))
          (mark-ready-second fronted (ended (past (numbers n) fronted)) (shaped-front d.what (numbers n)) body-ready (p.adds d.what d.rest d.is) l);
      cells = let e : length names₁ ≡ length names = p.long in omega (arith, d.cells, e);
    }

module _ {line names names₁ names₂ file mid last marks marks₁ marks₂ : List ℕ} {b : Bodies} {n : Next} {m : Next} {spaces : ℕ} {r : EventValues} (p : FrontWritten line names names₁ file mid marks marks₁ b n m spaces r) {s-next : Next} {s-count : ℕ} (q : LastWritten line names₁ names₂ mid last marks₁ marks₂ b m s-next s-count) where
  module _ (e : Event) (rest : List ℕ) (t : line_of line ≡ got e rest) where
    after_front : numbers m ≡ past (numbers n) (front_add e (numbers n))
    after_front = p.numbers-are e rest t

    body-added : MarkAdds file last marks marks₂ b n (body_add e (numbers n)) s-next
    unfolding body_add
    body-added =
        mark-then (front_add e (numbers n)) (last_add e (past (numbers n) (front_add e (numbers n)))) (shaped-front e (numbers n)) (shaped-last e _) (p.adds e rest t)
        (subst (λ (k : Next-as_Trace). MarkAdds mid last marks₁ marks₂ b m (last_add e k) s-next) after_front (q.adds e rest t))

    body_is : BodyIs e (numbers n) (record { spaces = spaces; values = r; list = m.list; count = s-count })
    unfolding numbers
    body_is = record { front = p.is e rest t; list = ap (λ (k : Next-as_Trace). k.list) after_front; count = q.count-is e rest t }

  pub body-wrote : BodyWritten line names names₂ file last marks marks₂ b n s-next (record { spaces = spaces; values = r; list = m.list; count = s-count })
  body-wrote = record {
    long = q.long ∙ p.long;
    small = record { names = p.small.names; values = record { four = p.small.four; list = q.list; many = q.small } };
    adds = body-added;
    is = body_is;
  }
