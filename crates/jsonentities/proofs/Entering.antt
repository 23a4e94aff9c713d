-- Entities written one after another, in the order of their cells
use mathlib.Core.Path.{◌≡◌, refl, sym, ap, subst, ◌∙◌}
use mathlib.Core.Bool.{Bool, true, false}
use mathlib.Core.List.{List, [], ◌∷◌}
use Prim.Native.Nat.{ℕ, suc, ◌+◌, ◌<◌, ◌≤◌}
use native.Mathlib.Omega.{arith}
use native.Mathlib.Numerals.{add-one}
use lib.ListN.{length, drop, get_or}
use mir.Val.{Fits}
use mir.Syntax.{w64}
use Rattle.meaning.specs.Tests.{choose}
use Rattle.jsontext.specs.Values.{Object, array}
use Rattle.jsontext.specs.Events.{Item}
use Rattle.jsontrace.specs.Order.{ordered, item_before, insert_item, ordered_entities}
use Rattle.jsontrace.specs.Trace.{Tables, empty, ◌⊕◌, Next as Next-as_Trace, past, entity_adds, entities_add}
use Rattle.jsontrace.proofs.Laws.Trace.{Shaped, shaped, shaped-empty, shaped-texts, shaped-lists, ◌then◌}
use Rattle.jsonroom.specs.declared.Bodies.{Bodies}
use Rattle.jsonroom.specs.declared.Next.{Next}
use Rattle.jsonruns.proofs.Runs.{same-got}
use Rattle.jsoncount.specs.Sizes.{entity_read}
use Rattle.jsonview.specs.Room.{numbers}
use Rattle.jsonview.specs.Showing.{adds_none}
use Rattle.jsonview.proofs.Rows.{plus_assoc, plus_none, none-plus}
use Rattle.jsonadds.specs.Place.{Stays}
use Rattle.jsonadds.proofs.Named.{named-ordered}
use Rattle.jsonentry.specs.Marks.{MarkReady, MarkAdds}
use Rattle.jsonentry.specs.Marking.{mark-none, mark-then, mark-ready-first, mark-ready-second}
use Rattle.jsonentry.specs.Entries.{named_entities, EntitiesDue, EntitiesWritten}
use Rattle.jsonentities.specs.Order.{arranged_item}
use Rattle.jsonentities.specs.Put.{HeldDue, HeldWritten, entity_tables, named_fields, named_item}
use Rattle.jsonentities.specs.Lists.{mark-numbers}
use Rattle.jsonentities.specs.Sort.{Stood, ItemCells, none, more, SortDue, Sorted, inside_items, SortedDue, SortedWritten}

-- ---- how many, and names inside, in any order

item-long : (x : Item) (ys : List Item) → length (insert_item x ys) ≡ suc (length ys)
unfolding insert_item choose
item-long x [] = refl
item-long x (y ∷ ys) =
    go (item_before y x) (item-long x ys)
  where
    go : (b : Bool) → length (insert_item x ys) ≡ suc (length ys) → length (choose b (y ∷ insert_item x ys) (x ∷ y ∷ ys)) ≡ suc (suc (length ys))
    go true r = ap suc r
    go false r = refl

ordered-long : (is : List Item) → length (ordered_entities is) ≡ length is
unfolding ordered_entities
ordered-long [] = refl
ordered-long (i ∷ is) = omega (arith, item-long (arranged_item i) (ordered_entities is), ordered-long is, same)
  where
    same : length (insert_item (arranged_item i) (ordered_entities is)) ≡ length (ordered_entities (i ∷ is))
    same = unfold arranged_item in refl

named-item : (i : Item) → named_item (arranged_item i) ≡ named_item i
unfolding named_item named_fields arranged_item ordered
named-item i = named-ordered (Object i.attributes)

inside-item : (x : Item) (ys : List Item) → inside_items (insert_item x ys) ≡ named_item x + inside_items ys
unfolding insert_item inside_items choose
inside-item x [] = refl
inside-item x (y ∷ ys) =
    go (item_before y x) (inside-item x ys)
  where
    go : (b : Bool) → inside_items (insert_item x ys) ≡ named_item x + inside_items ys → inside_items (choose b (y ∷ insert_item x ys) (x ∷ y ∷ ys)) ≡ named_item x + (named_item y + inside_items ys)
    go true r = omega (arith, r)
    go false r = refl

inside-ordered : (is : List Item) → inside_items (ordered_entities is) ≡ inside_items is
unfolding ordered_entities inside_items arranged_item
inside-ordered [] = refl
inside-ordered (i ∷ is) = omega (arith, inside-item (arranged_item i) (ordered_entities is), inside-ordered is, named-item i)

named-all : (is : List Item) → named_entities is ≡ length is + inside_items is
unfolding named_entities inside_items named_item named_fields
named-all [] = refl
named-all (i ∷ is) = omega (arith, named-all is)

-- ---- what stands in the cells is one thing

cells-one : {line names : List ℕ} (k : ℕ) {ps qs : List Item} → ItemCells line names k ps → ItemCells line names k qs → length ps ≡ length qs → ps ≡ qs
cells-one k none none e = refl
cells-one k none (more t d) e = absurd (omega arith)
cells-one k (more s c) none e = absurd (omega arith)
cells-one k (more {y = x} {ys = ps} s c) (more {y = y} {ys = qs} t d) e =
    let a : x ≡ y = s.is ∙ ap arranged_item (same-got s.stands.is t.stands.is) ∙ sym t.is in
    let z : ps ≡ qs = cells-one (suc k) c d (omega arith) in
    cc

-- the first of those left
record Front (line names : List ℕ) (i : ℕ) (left : List Item) : Type 0 where
  item : Item
  others : List Item
  is : left ≡ item ∷ others
  stood : Stood line (get_or names i 0) item
  cells : ItemCells line names (suc i) others

front_of : {line names : List ℕ} (i : ℕ) {left : List Item} → 0 < length left → ItemCells line names i left → Front line names i left
front_of i h none = absurd (omega arith)
front_of i h (more s c) = record { item = _; others = _; is = refl; stood = s; cells = c }

none_left : (is : List Item) → length is ≡ 0 → is ≡ []
none_left [] e = refl
none_left (i ∷ is) e = absurd (omega arith)

shaped-entity : (i : Item) (k : Next-as_Trace) → Shaped (entity_adds i k)
unfolding entity_adds
shaped-entity i k = shaped-texts _ then shaped _ _ then shaped-lists _

-- ---- the loop

pub record Entering (line names₀ names : List ℕ) (count : ℕ) (before file marks₀ marks : List ℕ) (b : Bodies) (n next : Next) (i : ℕ) : Type 0 where
  due : SortedDue line names₀ count before marks₀ b n
  stays : Stays count names₀ names
  long : length file ≡ length before
  marked : length marks ≡ length marks₀
  done : Tables
  left : List Item
  shaped-so : Shaped done
  tables : entities_add due.items (numbers n) ≡ done ⊕ entities_add left (numbers next)
  added : MarkAdds before file marks₀ marks b n done next
  cells : ItemCells line names₀ i left
  many_is : i + length left ≡ count
  spare : count + inside_items left ≤ length names₀

pub enter-start : {line names : List ℕ} {count : ℕ} {file marks : List ℕ} {b : Bodies} {n : Next} → SortedDue line names count file marks b n → Entering line names names count file file marks marks b n n 0
unfolding empty
enter-start {file = file} {b = b} {n = n} d = record {
  due = d;
  stays = record { long = refl; same = λ k h. refl };
  long = refl;
  marked = refl;
  done = empty;
  left = d.items;
  shaped-so = shaped-empty;
  tables = sym (none-plus (entities_add d.items (numbers n)));
  added = mark-none empty refl (adds_none file b n);
  cells = d.cells;
  many_is = omega (arith, d.many_is);
  spare = d.spare;
}

module _ {line names₀ names : List ℕ} {count : ℕ} {before file marks₀ marks : List ℕ} {b : Bodies} {n next : Next} {i : ℕ} (g : Entering line names₀ names count before file marks₀ marks b n next i) where
  pub enter-end : count ≤ i → SortedWritten line names₀ names count before file marks₀ marks b n next
  unfolding entities_add
  enter-end h = record {
    long = g.stays.long;
    adds = λ items cells e.
        let z : g.left ≡ [] = none_left g.left (omega (arith, g.many_is)) in
        let same : g.due.items ≡ items = cells-one 0 g.due.cells cells (g.due.many_is ∙ sym e) in
        let t : entities_add g.due.items (numbers n) ≡ g.done = g.tables ∙ ap (λ (is : List Item). g.done ⊕ entities_add is (numbers next)) z ∙ plus_none g.done in
        subst (λ (is : List Item). MarkAdds before file marks₀ marks b n (entities_add is (numbers n)) next) same
        (subst (λ (u : Tables). MarkAdds before file marks₀ marks b n u next) (sym t) g.added);
  }

  pub enter-names : length names ≡ length names₀
  enter-names = g.stays.long

  pub enter-out : length file ≡ length before
  enter-out = g.long

  pub enter-marks : length marks ≡ length marks₀
  enter-marks = g.marked

  module _ (h : i < count) where
    pub enter-cell : i < length names
    enter-cell = omega (arith, g.spare, g.stays.long)

    front : Front line names₀ i g.left
    front = front_of i (omega (arith, g.many_is)) g.cells

    -- it stands where the cell says
    here : Stood line (get_or names i 0) front.item
    here = subst (λ (p : ℕ). Stood line p front.item) (sym (g.stays.same i h)) front.stood

    abbrev one : Tables
    one = entity_adds front.item (numbers next)

    abbrev later : Tables
    later = entities_add front.others (past (numbers next) one)

    left_is : entities_add g.left (numbers next) ≡ one ⊕ later
    unfolding entities_add
    left_is = ap (λ (is : List Item). entities_add is (numbers next)) front.is

    here-ready : MarkReady file marks b next (one ⊕ later)
    here-ready =
        subst (λ (t : Tables). MarkReady file marks b next t) left_is
        (mark-ready-second g.done (entities_add g.left (numbers next)) g.shaped-so (subst (λ (t : Tables). MarkReady before marks₀ b n t) g.tables g.due.ready) g.added g.long)

    one-is : entity_tables here.item (numbers next) ≡ one
    unfolding entity_tables
    one-is = ap (λ (i : Item). entity_adds i (numbers next)) (sym here.is)

    pub entity-due : HeldDue line (get_or names i 0) (entity_read (drop (get_or names i 0) line)) file marks b next entity_tables names count named_item
    unfolding inside_items
    entity-due = record {
      due = record {
        what = here.item;
        rest = here.stands.rest;
        within = here.stands.within;
        is = here.stands.is;
        ready = subst (λ (t : Tables). MarkReady file marks b next t) (sym one-is) (mark-ready-first one later here-ready);
      };
      spare = record {
        is = λ what rest e.
            let z : named_item what ≡ named_item front.item = ap named_item (same-got e here.stands.is) ∙ sym (ap named_item here.is ∙ named-item here.item) in
            omega (arith, z, g.spare, ap inside_items front.is, g.stays.long);
      };
    }

    pub enter-again : {after marks' names' : List ℕ} {k : Next} → HeldWritten (entity_read (drop (get_or names i 0) line)) file after marks marks' b next entity_tables k count names names' → length after ≡ length file → length marks' ≡ length marks → Entering line names₀ names' count before after marks₀ marks' b n k (i + 1)
    unfolding inside_items
    enter-again {after} {marks'} {names'} {k} q l m =
        let new : MarkAdds file after marks marks' b next one k = subst (λ (t : Tables). MarkAdds file after marks marks' b next t k) one-is (q.adds here.item here.stands.rest here.stands.is) in
        let e : numbers k ≡ past (numbers next) one = mark-numbers one (mark-ready-first one later here-ready) new in
        record {
          due = g.due;
          stays = record { long = q.stays.long ∙ g.stays.long; same = λ c u. q.stays.same c u ∙ g.stays.same c u };
          long = l ∙ g.long;
          marked = m ∙ g.marked;
          done = g.done ⊕ one;
          left = front.others;
          shaped-so = g.shaped-so then shaped-entity front.item (numbers next);
          tables = g.tables ∙ ap (λ (t : Tables). g.done ⊕ t) left_is ∙ sym (plus_assoc g.done one later) ∙ ap (λ (z : Next-as_Trace). (g.done ⊕ one) ⊕ entities_add front.others z) (sym e);
          added = mark-then g.done one g.shaped-so (shaped-entity front.item (numbers next)) g.added new;
          cells = subst (λ (c : ℕ). ItemCells line names₀ c front.others) (sym (add-one i)) front.cells;
          many_is = omega (arith, g.many_is, ap length front.is);
          spare = omega (arith, g.spare, ap inside_items front.is);
        }

-- ---- sorted, then written

module _ {line : List ℕ} {at : ℕ} {names file marks : List ℕ} {b : Bodies} {n : Next} (d : EntitiesDue line at (array entity_read (drop at line)) names file marks b n) where
  pub entities_sort : SortDue line at (array entity_read (drop at line)) names
  entities_sort = record {
    good = record { what = d.what; rest = d.rest; within = d.within; is = d.is };
    spare = record { is = λ what rest e. omega (arith, ap named_entities (same-got e d.is), d.spare) };
  }

  module _ {sorted : List ℕ} {count : ℕ} (s : Sorted line (array entity_read (drop at line)) names sorted count) where
    count-is : length (ordered_entities d.what) ≡ count
    count-is = ordered-long d.what ∙ sym (s.many d.what d.rest d.is)

    pub entities-sorted : SortedDue line sorted count file marks b n
    entities-sorted = record {
      items = ordered_entities d.what;
      cells = s.cells d.what d.rest d.is;
      many_is = count-is;
      ready = d.ready;
      spare = omega (arith, d.spare, named-all d.what, inside-ordered d.what, s.many d.what d.rest d.is, s.long);
    }

    pub entities-wrote : {last after marks' : List ℕ} {next : Next} → SortedWritten line sorted last count file after marks marks' b n next → EntitiesWritten (array entity_read (drop at line)) names last file after marks marks' b n next count
    entities-wrote w = record {
      long = w.long ∙ s.long;
      many = s.many;
      adds = λ what rest e. w.adds (ordered_entities what) (s.cells what rest e) (ordered-long what ∙ sym (s.many what rest e));
    }
