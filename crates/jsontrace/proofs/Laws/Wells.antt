-- The strings of a trace are UTF-8 where those of its events are
use Rattle.std.specs.Prelude.{◌≡◌, refl, Bool, true, List, [], ◌∷◌, ◌++◌, map, ℕ, leb}
use Rattle.std.proofs.Math.Bool.{false}
use Rattle.std.proofs.Math.Option.{Option, none, some}
use Rattle.meaning.specs.Tests.{◌and◌, choose}
use Rattle.meaning.specs.Text.{before}
use Rattle.meaning.specs.Equal.{same_list}
use Rattle.laws.specs.Tests.{both, pass}
use Rattle.laws.specs.Lists.{Every}
use Rattle.jsontext.specs.Values.{J, Null, Truth, Int, Text, EntityOf, Decimal, Array, Object, Parts, end, part}
use Rattle.jsontext.specs.Events.{Item, Event}
use Rattle.jsontrace.specs.Order.{insert_part, ordered, ordered_items, ordered_members, ordered_maybe, item_before, insert_item, ordered_entities, arranged}
use Rattle.jsontrace.specs.Trace.{Tables, empty, ◌⊕◌, texts, value, members, point, lists, Next, first, past, many, holding, after_run, value_adds, items_add, members_add, maybe_adds, entity_adds, entities_add, event_adds, events_add, tables_of}
use Rattle.jsontrace.specs.Export.{not_form}
use Rattle.jsontrace.specs.Writable.{fits64, well, distinct, part_names, writable, writable_items, writable_members, deep, writable_value, writable_maybe, all_well, writable_entities, writable_event, writable_events}

-- ---- values whose strings are UTF-8

unfoldable mutual
  well_in : J → Bool
  well_in Null = true
  well_in (Truth b) = true
  well_in (Int z) = true
  well_in (Text t) = well t
  well_in (EntityOf t i) = well t and well i
  well_in (Decimal t) = well t
  well_in (Array ps) = well_items ps
  well_in (Object ps) = well_members ps

  well_items : Parts → Bool
  well_items end = true
  well_items (part n j ps) = well_in j and well_items ps

  well_members : Parts → Bool
  well_members end = true
  well_members (part n j ps) = well n and well_in j and well_members ps

mutual
  unfolding writable well_in

  writable-well : (j : J) → writable j ≡ true → well_in j ≡ true
  writable-well Null h = refl
  writable-well (Truth b) h = refl
  writable-well (Int z) h = refl
  writable-well (Text t) h = h
  writable-well (EntityOf t i) h = h
  writable-well (Decimal t) h = h
  writable-well (Array ps) h = items-well ps h
  writable-well (Object ps) h = members-well ps (both (not_form ps) (writable_members ps) (both (distinct [] (part_names ps)) (not_form ps and writable_members ps) h).1).1

  items-well : (ps : Parts) → writable_items ps ≡ true → well_items ps ≡ true
  items-well end h = refl
  items-well (part n j ps) h =
      let p = both (writable j) (writable_items ps) (both (same_list n []) (writable j and writable_items ps) h).1 in
      pass (writable-well j p.0) (items-well ps p.1)

  members-well : (ps : Parts) → writable_members ps ≡ true → well_members ps ≡ true
  members-well end h = refl
  members-well (part n j ps) h =
      let p = both (well n) (writable j and writable_members ps) h in
      let q = both (writable j) (writable_members ps) p.1 in
      pass p.0 (pass (writable-well j q.0) (members-well ps q.1))

-- ---- in order

insert_well : (n : List ℕ) (j : J) (ps : Parts) → well n ≡ true → well_in j ≡ true → well_members ps ≡ true → well_members (insert_part n j ps) ≡ true
unfolding insert_part well_in
insert_well n j end a b c = pass a (pass b refl)
insert_well n j (part m k ps) a b c =
    let p = both (well m) (well_in k and well_members ps) c in
    let q = both (well_in k) (well_members ps) p.1 in
    go (before m n) (pass p.0 (pass q.0 (insert_well n j ps a b q.1)))
  where
    go : (t : Bool) → well_members (part m k (insert_part n j ps)) ≡ true → well_members (choose t (part m k (insert_part n j ps)) (part n j (part m k ps))) ≡ true
    go true h = unfold choose in h
    go false h = unfold choose in pass a (pass b c)

mutual
  unfolding ordered well_in

  ordered-well : (j : J) → well_in j ≡ true → well_in (ordered j) ≡ true
  ordered-well Null h = refl
  ordered-well (Truth b) h = refl
  ordered-well (Int z) h = refl
  ordered-well (Text t) h = h
  ordered-well (EntityOf t i) h = h
  ordered-well (Decimal t) h = h
  ordered-well (Array ps) h = ordered-items ps h
  ordered-well (Object ps) h = ordered-members ps h

  ordered-items : (ps : Parts) → well_items ps ≡ true → well_items (ordered_items ps) ≡ true
  ordered-items end h = refl
  ordered-items (part n j ps) h =
      let p = both (well_in j) (well_items ps) h in
      pass (ordered-well j p.0) (ordered-items ps p.1)

  ordered-members : (ps : Parts) → well_members ps ≡ true → well_members (ordered_members ps) ≡ true
  ordered-members end h = refl
  ordered-members (part n j ps) h =
      let p = both (well n) (well_in j and well_members ps) h in
      let q = both (well_in j) (well_members ps) p.1 in
      insert_well n (ordered j) (ordered_members ps) p.0 (ordered-well j q.0) (ordered-members ps q.1)

-- ---- what they add

abbrev Wells : List (List ℕ) → Type 0
Wells ts = Every (λ t. well t ≡ true) ts

wells_append : (ts us : List (List ℕ)) → Wells ts → Wells us → Wells (ts ++ us)
wells_append [] us p q = q
wells_append (t ∷ ts) us p q = (p.0, wells_append ts us p.1 q)

record Good (t : Tables) : Type 0 where
  texts : Wells t.texts

infixr 20 ◌then◌
◌then◌ : {t u : Tables} → Good t → Good u → Good (t ⊕ u)
unfolding ◌⊕◌
◌then◌ {t} {u} p q = record { texts = wells_append t.texts u.texts p.texts q.texts }

good-texts : (ts : List (List ℕ)) → Wells ts → Good (texts ts)
unfolding texts
good-texts ts h = record { texts = h }

good-value : (k a b : ℕ) → Good (value k a b)
unfolding value
good-value k a b = record { texts = tt }

good-members : (ms : List (List ℕ)) → Good (members ms)
unfolding members
good-members ms = record { texts = tt }

good-lists : (ws : List (ℕ × ℕ)) → Good (lists ws)
unfolding lists
good-lists ws = record { texts = tt }

good-point : (ws : List ℕ) → Good (point ws)
unfolding point
good-point ws = record { texts = tt }

good-empty : Good empty
unfolding empty
good-empty = record { texts = tt }

good-holding : (kind : ℕ) (n : Next) (count : ℕ) (r : List (List ℕ) × Tables) → Good r.1 → Good (holding kind n count r)
unfolding holding
good-holding kind n count r h = good-members r.0 then h then good-value kind n.member count

mutual
  unfolding value_adds well_in

  good : (j : J) (n : Next) → well_in j ≡ true → Good (value_adds j n)
  good Null n h = good-value 0 0 0
  good (Truth b) n h = good-value 1 _ 0
  good (Int z) n h = good-value 2 _ _
  good (Decimal t) n h = good-texts (t ∷ []) (h, tt) then good-value 3 n.string 0
  good (Text t) n h = good-texts (t ∷ []) (h, tt) then good-value 4 n.string 0
  good (EntityOf t i) n h = let p = both (well t) (well i) h in good-texts (t ∷ i ∷ []) (p.0, (p.1, tt)) then good-value 5 _ _
  good (Array ps) n h = good-holding 6 n (many ps) _ (good-items ps (after_run n (many ps)) h)
  good (Object ps) n h = good-holding 7 n (many ps) _ (good-parts ps (after_run n (many ps)) h)

  good-items : (ps : Parts) (n : Next) → well_items ps ≡ true → Good (items_add ps n).1
  good-items end n h = good-empty
  good-items (part m j ps) n h =
      let p = both (well_in j) (well_items ps) h in
      good j n p.0 then good-items ps (past n (value_adds j n)) p.1

  good-parts : (ps : Parts) (n : Next) → well_members ps ≡ true → Good (members_add ps n).1
  good-parts end n h = good-empty
  good-parts (part m j ps) n h =
      let next = past n (texts (m ∷ [])) in
      let p = both (well m) (well_in j and well_members ps) h in
      let q = both (well_in j) (well_members ps) p.1 in
      good-texts (m ∷ []) (p.0, tt) then good j next q.0 then good-parts ps (past next (value_adds j next)) q.1

-- ---- events

good-maybe : (o : Option J) (n : Next) → writable_maybe o ≡ true → Good (maybe_adds (ordered_maybe o) n)
unfolding writable_maybe ordered_maybe maybe_adds
good-maybe none n h = good-empty
good-maybe (some j) n h = good (ordered j) n (ordered-well j (writable-well j (both (writable j) (leb (deep j) 32) h).0))

good_record : (ps : Parts) (n : Next) → writable_value (Object ps) ≡ true → Good (value_adds (Object (ordered_members ps)) n)
unfolding ordered
good_record ps n h = good (ordered (Object ps)) n (ordered-well (Object ps) (writable-well (Object ps) (both (writable (Object ps)) (leb (deep (Object ps)) 32) h).0))

-- an entity in order
record ItemGood (i : Item) : Type 0 where
  type : well i.type ≡ true
  id : well i.id ≡ true
  adds : (n : Next) → Good (value_adds (Object i.attributes) n)

insert_good : (x : Item) (xs : List Item) → ItemGood x → Every ItemGood xs → Every ItemGood (insert_item x xs)
unfolding insert_item
insert_good x [] h e = (h, tt)
insert_good x (y ∷ ys) h e = go (item_before y x) (insert_good x ys h e.1)
  where
    go : (b : Bool) → Every ItemGood (insert_item x ys) → Every ItemGood (choose b (y ∷ insert_item x ys) (x ∷ y ∷ ys))
    go true more = unfold choose in (e.0, more)
    go false more = unfold choose in (h, e)

items-good : (xs : List Item) → writable_entities xs ≡ true → Every ItemGood (ordered_entities xs)
unfolding writable_entities ordered_entities
items-good [] h = tt
items-good (x ∷ xs) h =
    let p = both (well x.type and well x.id and writable_value (Object x.attributes)) (writable_entities xs) h in
    let q = both (well x.type) (well x.id and writable_value (Object x.attributes)) p.0 in
    let r = both (well x.id) (writable_value (Object x.attributes)) q.1 in
    insert_good _ (ordered_entities xs) (record { type = q.0; id = r.0; adds = λ n. good_record x.attributes n r.1 }) (items-good xs p.1)

good-entities : (xs : List Item) (n : Next) → Every ItemGood xs → Good (entities_add xs n)
unfolding entities_add entity_adds
good-entities [] n e = good-empty
good-entities (x ∷ xs) n e =
    (good-texts (x.type ∷ x.id ∷ []) (e.0.type, (e.0.id, tt)) then e.0.adds _ then good-lists _) then good-entities xs _ e.1

all_wells : (ts : List (List ℕ)) → all_well ts ≡ true → Wells ts
unfolding all_well
all_wells [] h = tt
all_wells (t ∷ ts) h = let p = both (well t) (all_well ts) h in (p.0, all_wells ts p.1)

good-event : (e : Event) (n : Next) → writable_event e ≡ true → Good (event_adds (arranged e) n)
unfolding writable_event event_adds arranged
good-event e n h =
    let a = both (fits64 e.time) _ h in
    let b = both (all_well e.namespace) _ a.1 in
    let c = both (well e.action) _ b.1 in
    let d = both (well e.kind) _ c.1 in
    let f = both (writable_value (Object e.logged)) _ d.1 in
    let g = both (writable_value (Object e.context)) _ f.1 in
    let i = both (writable_maybe e.principal) _ g.1 in
    let j = both (writable_maybe e.resource) _ i.1 in
    (good-texts (e.namespace ++ (e.action ∷ e.kind ∷ [])) (wells_append e.namespace (e.action ∷ e.kind ∷ []) (all_wells e.namespace b.0) (c.0, (d.0, tt))) then good-lists _)
    then good_record e.logged _ f.0
    then good_record e.context _ g.0
    then good-maybe e.principal _ i.0
    then good-maybe e.resource _ j.0
    then good-entities (ordered_entities e.entities) _ (items-good e.entities j.1)
    then good-point _

good-events : (es : List Event) (n : Next) → writable_events es ≡ true → Good (events_add (map arranged es) n)
unfolding writable_events events_add
good-events [] n h = good-empty
good-events (e ∷ es) n h =
    let p = both (writable_event e) (writable_events es) h in
    good-event e n p.0 then good-events es _ p.1

pub trace_wells : (es : List Event) → writable_events es ≡ true → Every (λ t. well t ≡ true) (tables_of es).texts
unfolding tables_of
trace_wells es h = (good-events es first h).texts
