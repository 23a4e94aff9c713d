-- The tables of a log are as long as its events count, whatever their order
use Rattle.std.specs.Prelude.{◌≡◌, refl, Bool, true, List, [], ◌∷◌, ◌++◌, map, ℕ, ◌+◌, length}
use Rattle.std.proofs.Common.{◌∙◌, arith, length-append}
use Rattle.std.proofs.Math.Bool.{false}
use Rattle.std.proofs.Math.Option.{Option, none, some}
use Rattle.std.proofs.lemmas.List.{length-map}
use Rattle.meaning.specs.Tests.{choose}
use Rattle.meaning.specs.Text.{before}
use Rattle.meaning.specs.Case.{places}
use Rattle.encode.specs.Encode.{flat}
use Rattle.encode.proofs.Laws.Unsorted.{places-long}
use Rattle.jsontext.specs.Values.{J, Null, Truth, Int, Text, EntityOf, Decimal, Array, Object, Parts, end, part}
use Rattle.jsontext.specs.Events.{Item, Event}
use Rattle.jsontrace.specs.Order.{insert_part, ordered, ordered_items, ordered_members, ordered_maybe, item_before, insert_item, ordered_entities, arranged}
use Rattle.jsontrace.specs.Trace.{Tables, empty, ◌⊕◌, texts, value, members, point, lists, Next, first, past, many, holding, after_run, value_adds, items_add, members_add, maybe_adds, naming, entity_adds, entities_add, event_adds, events_add, tables_of}
use Rattle.jsontrace.specs.Count.{Count, nothing, ◌⊞◌, a_string, a_value, a_member, a_point, list_words, counted, counted_items, counted_members, counted_maybe, counted_strings, counted_entities, counted_event, counted_events}

flat_append : (ts us : List (List ℕ)) → length (flat (ts ++ us)) ≡ length (flat ts) + length (flat us)
unfolding flat
flat_append [] us = omega arith
flat_append (t ∷ ts) us = omega (arith, length-append t (flat (ts ++ us)), flat_append ts us, length-append t (flat ts))

-- as many records as counted
pub record Sized (t : Tables) (c : Count) : Type 0 where
  pub strings : length t.texts ≡ c.strings
  pub bytes : length (flat t.texts) ≡ c.bytes
  pub values : length t.values ≡ c.values
  pub members : length t.members ≡ c.members
  pub points : length t.points ≡ c.points
  pub lists : length t.lists ≡ c.lists

infixr 20 ◌then◌
◌then◌ : {t u : Tables} {c d : Count} → Sized t c → Sized u d → Sized (t ⊕ u) (c ⊞ d)
unfolding ◌⊕◌ ◌⊞◌
◌then◌ {t} {u} {c} {d} p q = record {
  strings = omega (arith, length-append t.texts u.texts, p.strings, q.strings);
  bytes = omega (arith, flat_append t.texts u.texts, p.bytes, q.bytes);
  values = omega (arith, length-append t.values u.values, p.values, q.values);
  members = omega (arith, length-append t.members u.members, p.members, q.members);
  points = omega (arith, length-append t.points u.points, p.points, q.points);
  lists = omega (arith, length-append t.lists u.lists, p.lists, q.lists);
}

-- counts that agree
record Same (c d : Count) : Type 0 where
  strings : c.strings ≡ d.strings
  bytes : c.bytes ≡ d.bytes
  values : c.values ≡ d.values
  members : c.members ≡ d.members
  points : c.points ≡ d.points
  lists : c.lists ≡ d.lists

recount : {t : Tables} {c d : Count} → Sized t c → Same c d → Sized t d
recount p s = record {
  strings = p.strings ∙ s.strings;
  bytes = p.bytes ∙ s.bytes;
  values = p.values ∙ s.values;
  members = p.members ∙ s.members;
  points = p.points ∙ s.points;
  lists = p.lists ∙ s.lists;
}

alike : (c : Count) → Same c c
alike c = record { strings = refl; bytes = refl; values = refl; members = refl; points = refl; lists = refl }

-- ---- tables of one sort

count_texts : List (List ℕ) → Count
count_texts ts = record { strings = length ts; bytes = length (flat ts); values = 0; members = 0; points = 0; lists = 0 }

count_members : List (List ℕ) → Count
count_members ms = record { strings = 0; bytes = 0; values = 0; members = length ms; points = 0; lists = 0 }

sized-texts : (ts : List (List ℕ)) → Sized (texts ts) (count_texts ts)
unfolding texts count_texts
sized-texts ts = record { strings = refl; bytes = refl; values = refl; members = refl; points = refl; lists = refl }

sized-empty : Sized empty nothing
unfolding empty nothing flat
sized-empty = record { strings = refl; bytes = refl; values = refl; members = refl; points = refl; lists = refl }

sized-value : (k a b : ℕ) → Sized (value k a b) a_value
unfolding value a_value flat
sized-value k a b = record { strings = refl; bytes = refl; values = refl; members = refl; points = refl; lists = refl }

sized-members : (ms : List (List ℕ)) → Sized (members ms) (count_members ms)
unfolding members count_members flat
sized-members ms = record { strings = refl; bytes = refl; values = refl; members = refl; points = refl; lists = refl }

sized-lists : (ws : List (ℕ × ℕ)) → Sized (lists ws) (list_words (length ws))
unfolding lists list_words flat
sized-lists ws = record { strings = refl; bytes = refl; values = refl; members = refl; points = refl; lists = refl }

sized-point : (ws : List ℕ) → Sized (point ws) a_point
unfolding point a_point flat
sized-point ws = record { strings = refl; bytes = refl; values = refl; members = refl; points = refl; lists = refl }

one-text : (t : List ℕ) → Sized (texts (t ∷ [])) (a_string t)
unfolding texts a_string flat
one-text t = record { strings = refl; bytes = omega (arith, length-append t []); values = refl; members = refl; points = refl; lists = refl }

two-texts : (t u : List ℕ) → Sized (texts (t ∷ u ∷ [])) (a_string t ⊞ a_string u)
unfolding texts a_string flat ◌⊞◌
two-texts t u = record { strings = refl; bytes = omega (arith, length-append t (u ++ []), length-append u []); values = refl; members = refl; points = refl; lists = refl }

-- ---- values

-- a run with what its parts add: so many members, and the rest
record SizedRun (r : List (List ℕ) × Tables) (c : Count) : Type 0 where
  rest : Count
  tables : Sized r.1 rest
  all : Same (count_members r.0 ⊞ rest) c

no_run : SizedRun ([], empty) nothing
unfolding count_members nothing ◌⊞◌
no_run = record { rest = nothing; tables = sized-empty; all = alike _ }

more-run : {t : Tables} {m : List ℕ} {r : List (List ℕ) × Tables} {c d : Count} → Sized t c → SizedRun r d → SizedRun (m ∷ r.0, t ⊕ r.1) (a_member ⊞ c ⊞ d)
unfolding count_members a_member ◌⊞◌
more-run {t} {m} {r} {c} {d} p q = record {
  rest = c ⊞ q.rest;
  tables = p then q.tables;
  all = record {
    strings = omega (arith, q.all.strings);
    bytes = omega (arith, q.all.bytes);
    values = omega (arith, q.all.values);
    members = omega (arith, q.all.members);
    points = omega (arith, q.all.points);
    lists = omega (arith, q.all.lists);
  };
}

sized-holding : (kind : ℕ) (n : Next) (count : ℕ) (r : List (List ℕ) × Tables) (c : Count) → SizedRun r c → Sized (holding kind n count r) (c ⊞ a_value)
unfolding holding ◌⊞◌ count_members a_value
sized-holding kind n count r c q =
    recount (sized-members r.0 then q.tables then sized-value kind n.member count) (record {
      strings = omega (arith, q.all.strings);
      bytes = omega (arith, q.all.bytes);
      values = omega (arith, q.all.values);
      members = omega (arith, q.all.members);
      points = omega (arith, q.all.points);
      lists = omega (arith, q.all.lists);
    })

more-member : {t u : Tables} {m : List ℕ} {r : List (List ℕ) × Tables} {b c d : Count} → Sized t b → Sized u c → SizedRun r d → SizedRun (m ∷ r.0, t ⊕ u ⊕ r.1) (a_member ⊞ b ⊞ c ⊞ d)
unfolding count_members a_member ◌⊞◌
more-member {t} {u} {m} {r} {b} {c} {d} p o q = record {
  rest = b ⊞ c ⊞ q.rest;
  tables = p then o then q.tables;
  all = record {
    strings = omega (arith, q.all.strings);
    bytes = omega (arith, q.all.bytes);
    values = omega (arith, q.all.values);
    members = omega (arith, q.all.members);
    points = omega (arith, q.all.points);
    lists = omega (arith, q.all.lists);
  };
}

to_the_right : (b c d : Count) → Same ((b ⊞ c) ⊞ d) (b ⊞ c ⊞ d)
unfolding ◌⊞◌
to_the_right b c d = record {
  strings = omega arith;
  bytes = omega arith;
  values = omega arith;
  members = omega arith;
  points = omega arith;
  lists = omega arith;
}

mutual
  unfolding value_adds counted

  sized : (j : J) (n : Next) → Sized (value_adds j n) (counted j)
  sized Null n = sized-value 0 0 0
  sized (Truth b) n = sized-value 1 _ 0
  sized (Int z) n = sized-value 2 _ _
  sized (Decimal t) n = one-text t then sized-value 3 n.string 0
  sized (Text t) n = one-text t then sized-value 4 n.string 0
  sized (EntityOf t i) n = recount (two-texts t i then sized-value 5 n.string (n.string + 1)) (to_the_right (a_string t) (a_string i) a_value)
  sized (Array ps) n = sized-holding 6 n (many ps) _ _ (sized-items ps (after_run n (many ps)))
  sized (Object ps) n = sized-holding 7 n (many ps) _ _ (sized-parts ps (after_run n (many ps)))

  sized-items : (ps : Parts) (n : Next) → SizedRun (items_add ps n) (counted_items ps)
  sized-items end n = no_run
  sized-items (part m j ps) n = more-run (sized j n) (sized-items ps (past n (value_adds j n)))

  sized-parts : (ps : Parts) (n : Next) → SizedRun (members_add ps n) (counted_members ps)
  sized-parts end n = no_run
  sized-parts (part m j ps) n =
      let next = past n (texts (m ∷ [])) in
      more-member (one-text m) (sized j next) (sized-parts ps (past next (value_adds j next)))

sized-maybe : (o : Option J) (n : Next) → Sized (maybe_adds o n) (counted_maybe o)
unfolding maybe_adds counted_maybe
sized-maybe none n = sized-empty
sized-maybe (some j) n = sized j n

-- ---- events

naming-many : (from count : ℕ) → length (naming from count) ≡ count
unfolding naming
naming-many from count = length-map (places from 1 count) (λ k. (k, 1)) ∙ places-long from count

sized-naming : (from count : ℕ) (more : List (ℕ × ℕ)) → Sized (lists (naming from count ++ more)) (list_words (count + length more))
unfolding list_words
sized-naming from count more =
    recount (sized-lists (naming from count ++ more)) (record {
      strings = refl;
      bytes = refl;
      values = refl;
      members = refl;
      points = refl;
      lists = omega (arith, length-append (naming from count) more, naming-many from count);
    })

strings-same : (ts : List (List ℕ)) → Same (count_texts ts) (counted_strings ts)
unfolding count_texts counted_strings nothing a_string ◌⊞◌ flat
strings-same [] = alike _
strings-same (t ∷ ts) =
    let more = strings-same ts in
    record {
      strings = omega (arith, more.strings, length-append t (flat ts));
      bytes = omega (arith, more.bytes, length-append t (flat ts));
      values = omega (arith, more.values, length-append t (flat ts));
      members = omega (arith, more.members, length-append t (flat ts));
      points = omega (arith, more.points, length-append t (flat ts));
      lists = omega (arith, more.lists, length-append t (flat ts));
    }

-- namespace, action and kind
sized-names : (ts : List (List ℕ)) (a k : List ℕ) (from : ℕ) → Sized (texts (ts ++ (a ∷ k ∷ [])) ⊕ lists (naming from (length ts))) (counted_strings ts ⊞ list_words (length ts) ⊞ a_string a ⊞ a_string k)
unfolding texts lists ◌⊕◌ a_string list_words ◌⊞◌ flat count_texts
sized-names ts a k from =
    let more = strings-same ts in
    record {
      strings = omega (arith, more.strings, length-append ts (a ∷ k ∷ []), flat_append ts (a ∷ k ∷ []), length-append a (k ++ []), length-append k [], length-append (ts ++ (a ∷ k ∷ [])) [], naming-many from (length ts), flat_append (ts ++ (a ∷ k ∷ [])) []);
      bytes = omega (arith, more.bytes, length-append ts (a ∷ k ∷ []), flat_append ts (a ∷ k ∷ []), length-append a (k ++ []), length-append k [], length-append (ts ++ (a ∷ k ∷ [])) [], naming-many from (length ts), flat_append (ts ++ (a ∷ k ∷ [])) []);
      values = omega (arith, more.values, length-append ts (a ∷ k ∷ []), flat_append ts (a ∷ k ∷ []), length-append a (k ++ []), length-append k [], length-append (ts ++ (a ∷ k ∷ [])) [], naming-many from (length ts), flat_append (ts ++ (a ∷ k ∷ [])) []);
      members = omega (arith, more.members, length-append ts (a ∷ k ∷ []), flat_append ts (a ∷ k ∷ []), length-append a (k ++ []), length-append k [], length-append (ts ++ (a ∷ k ∷ [])) [], naming-many from (length ts), flat_append (ts ++ (a ∷ k ∷ [])) []);
      points = omega (arith, more.points, length-append ts (a ∷ k ∷ []), flat_append ts (a ∷ k ∷ []), length-append a (k ++ []), length-append k [], length-append (ts ++ (a ∷ k ∷ [])) [], naming-many from (length ts), flat_append (ts ++ (a ∷ k ∷ [])) []);
      lists = omega (arith, more.lists, length-append ts (a ∷ k ∷ []), flat_append ts (a ∷ k ∷ []), length-append a (k ++ []), length-append k [], length-append (ts ++ (a ∷ k ∷ [])) [], naming-many from (length ts), flat_append (ts ++ (a ∷ k ∷ [])) []);
    }

sized-entity : (i : Item) (n : Next) → Sized (entity_adds i n) ((a_string i.type ⊞ a_string i.id) ⊞ counted (Object i.attributes) ⊞ list_words 3)
unfolding entity_adds
sized-entity i n = two-texts i.type i.id then sized (Object i.attributes) _ then sized-naming n.string 2 _

sized-entities : (is : List Item) (n : Next) → Sized (entities_add is n) (counted_entities is)
unfolding entities_add counted_entities ◌⊞◌
sized-entities [] n = sized-empty
sized-entities (i ∷ is) n = recount (sized-entity i n then sized-entities is _) (record {
  strings = omega arith;
  bytes = omega arith;
  values = omega arith;
  members = omega arith;
  points = omega arith;
  lists = omega arith;
})

sized-event : (e : Event) (n : Next) → Sized (event_adds e n) (counted_event e)
unfolding event_adds counted_event ◌⊞◌
sized-event e n =
    recount (sized-names e.namespace e.action e.kind n.string then sized (Object e.logged) _ then sized (Object e.context) _ then sized-maybe e.principal _ then sized-maybe e.resource _ then sized-entities e.entities _ then sized-point _)
    (record {
      strings = omega arith;
      bytes = omega arith;
      values = omega arith;
      members = omega arith;
      points = omega arith;
      lists = omega arith;
    })

sized-events : (es : List Event) (n : Next) → Sized (events_add es n) (counted_events es)
unfolding events_add counted_events
sized-events [] n = sized-empty
sized-events (e ∷ es) n = sized-event e n then sized-events es _

-- ---- order does not count

both-same : (b c d e : Count) → Same b c → Same d e → Same (b ⊞ d) (c ⊞ e)
unfolding ◌⊞◌
both-same b c d e p q = record {
  strings = omega (arith, p.strings, q.strings);
  bytes = omega (arith, p.bytes, q.bytes);
  values = omega (arith, p.values, q.values);
  members = omega (arith, p.members, q.members);
  points = omega (arith, p.points, q.points);
  lists = omega (arith, p.lists, q.lists);
}

after_same : {b c d : Count} → Same b c → Same c d → Same b d
after_same p q = record {
  strings = p.strings ∙ q.strings;
  bytes = p.bytes ∙ q.bytes;
  values = p.values ∙ q.values;
  members = p.members ∙ q.members;
  points = p.points ∙ q.points;
  lists = p.lists ∙ q.lists;
}

insert_same : (n : List ℕ) (j : J) (ps : Parts) → Same (counted_members (insert_part n j ps)) (a_member ⊞ a_string n ⊞ counted j ⊞ counted_members ps)
unfolding insert_part counted
insert_same n j end = alike _
insert_same n j (part m k ps) = go (before m n) (insert_same n j ps)
  where
    go : (b : Bool) → Same (counted_members (insert_part n j ps)) (a_member ⊞ a_string n ⊞ counted j ⊞ counted_members ps) → Same (counted_members (choose b (part m k (insert_part n j ps)) (part n j (part m k ps)))) (a_member ⊞ a_string n ⊞ counted j ⊞ counted_members (part m k ps))
    go true p = unfold choose ◌⊞◌ in record {
      strings = omega (arith, p.strings);
      bytes = omega (arith, p.bytes);
      values = omega (arith, p.values);
      members = omega (arith, p.members);
      points = omega (arith, p.points);
      lists = omega (arith, p.lists);
    }
    go false p = unfold choose in alike _

-- a part more, in order or not
more-items : (n : List ℕ) (j k : J) (ps qs : Parts) → Same (counted j) (counted k) → Same (counted_items ps) (counted_items qs) → Same (counted_items (part n j ps)) (counted_items (part n k qs))
unfolding counted ◌⊞◌
more-items n j k ps qs p q = record {
  strings = omega (arith, p.strings, q.strings);
  bytes = omega (arith, p.bytes, q.bytes);
  values = omega (arith, p.values, q.values);
  members = omega (arith, p.members, q.members);
  points = omega (arith, p.points, q.points);
  lists = omega (arith, p.lists, q.lists);
}

more-members : (n : List ℕ) (j k : J) (ps qs : Parts) → Same (counted j) (counted k) → Same (counted_members ps) (counted_members qs) → Same (counted_members (insert_part n j ps)) (counted_members (part n k qs))
unfolding counted ◌⊞◌
more-members n j k ps qs p q = let i = insert_same n j ps in record {
  strings = omega (arith, i.strings, p.strings, q.strings);
  bytes = omega (arith, i.bytes, p.bytes, q.bytes);
  values = omega (arith, i.values, p.values, q.values);
  members = omega (arith, i.members, p.members, q.members);
  points = omega (arith, i.points, p.points, q.points);
  lists = omega (arith, i.lists, p.lists, q.lists);
}

mutual
  unfolding ordered counted

  order_same : (j : J) → Same (counted (ordered j)) (counted j)
  order_same Null = alike _
  order_same (Truth b) = alike _
  order_same (Int z) = alike _
  order_same (Text t) = alike _
  order_same (EntityOf t i) = alike _
  order_same (Decimal t) = alike _
  order_same (Array ps) = both-same _ _ _ _ (items-same ps) (alike a_value)
  order_same (Object ps) = both-same _ _ _ _ (parts_same ps) (alike a_value)

  items-same : (ps : Parts) → Same (counted_items (ordered_items ps)) (counted_items ps)
  items-same end = alike _
  items-same (part n j ps) = more-items n (ordered j) j (ordered_items ps) ps (order_same j) (items-same ps)

  parts_same : (ps : Parts) → Same (counted_members (ordered_members ps)) (counted_members ps)
  parts_same end = alike _
  parts_same (part n j ps) = more-members n (ordered j) j (ordered_members ps) ps (order_same j) (parts_same ps)

maybe-same : (o : Option J) → Same (counted_maybe (ordered_maybe o)) (counted_maybe o)
unfolding ordered_maybe counted_maybe
maybe-same none = alike _
maybe-same (some j) = order_same j

object-same : (ps : Parts) → Same (counted (Object (ordered_members ps))) (counted (Object ps))
unfolding counted
object-same ps = both-same _ _ _ _ (parts_same ps) (alike a_value)

insert_item_lem : (x : Item) (xs : List Item) → Same (counted_entities (insert_item x xs)) (counted_entities (x ∷ xs))
unfolding insert_item counted_entities
insert_item_lem x [] = alike _
insert_item_lem x (y ∷ ys) = go (item_before y x) (insert_item_lem x ys)
  where
    go : (b : Bool) → Same (counted_entities (insert_item x ys)) (counted_entities (x ∷ ys)) → Same (counted_entities (choose b (y ∷ insert_item x ys) (x ∷ y ∷ ys))) (counted_entities (x ∷ y ∷ ys))
    go true p = unfold choose ◌⊞◌ in record {
      strings = omega (arith, p.strings);
      bytes = omega (arith, p.bytes);
      values = omega (arith, p.values);
      members = omega (arith, p.members);
      points = omega (arith, p.points);
      lists = omega (arith, p.lists);
    }
    go false p = unfold choose in alike _

entities-same : (xs : List Item) → Same (counted_entities (ordered_entities xs)) (counted_entities xs)
unfolding ordered_entities counted_entities ◌⊞◌
entities-same [] = alike _
entities-same (x ∷ xs) =
    let i = insert_item_lem (record { type = x.type; id = x.id; attributes = ordered_members x.attributes }) (ordered_entities xs) in
    let a = object-same x.attributes in
    let more = entities-same xs in
    record {
      strings = omega (arith, i.strings, a.strings, more.strings);
      bytes = omega (arith, i.bytes, a.bytes, more.bytes);
      values = omega (arith, i.values, a.values, more.values);
      members = omega (arith, i.members, a.members, more.members);
      points = omega (arith, i.points, a.points, more.points);
      lists = omega (arith, i.lists, a.lists, more.lists);
    }

event-same : (e : Event) → Same (counted_event (arranged e)) (counted_event e)
unfolding arranged counted_event ◌⊞◌
event-same e =
    let l = object-same e.logged in
    let c = object-same e.context in
    let p = maybe-same e.principal in
    let r = maybe-same e.resource in
    let i = entities-same e.entities in
    record {
      strings = omega (arith, l.strings, c.strings, p.strings, r.strings, i.strings);
      bytes = omega (arith, l.bytes, c.bytes, p.bytes, r.bytes, i.bytes);
      values = omega (arith, l.values, c.values, p.values, r.values, i.values);
      members = omega (arith, l.members, c.members, p.members, r.members, i.members);
      points = omega (arith, l.points, c.points, p.points, r.points, i.points);
      lists = omega (arith, l.lists, c.lists, p.lists, r.lists, i.lists);
    }

events-same : (es : List Event) → Same (counted_events (map arranged es)) (counted_events es)
unfolding counted_events
events-same [] = alike _
events-same (e ∷ es) = both-same _ _ _ _ (event-same e) (events-same es)

-- ---- the trace

-- the tables of a log are as long as its events count
pub tables-sized : (es : List Event) → Sized (tables_of es) (counted_events es)
unfolding tables_of
tables-sized es = recount (sized-events (map arranged es) first) (events-same es)
