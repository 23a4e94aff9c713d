-- A value by its first byte: an array, an object, a form, or a value that holds no other
use mathlib.Core.Path.{◌≡◌, refl, sym, ap, subst, ◌∙◌}
use mathlib.Core.Bool.{true, false}
use mathlib.Core.List.{List}
use Prim.Native.Nat.{ℕ, ◌+◌, ◌*◌, ◌-◌, ◌<◌, ◌≤◌}
use native.Mathlib.Omega.{arith}
use lib.ListN.{length, drop, get_or, length-append}
use Rattle.jsontext.specs.declared.Form.{Form}
use Rattle.jsontext.specs.declared.Form.TheVariants.{Plain, Entity, Extension}
use Rattle.jsontext.specs.Reading.{Read, got, then, mapped}
use Rattle.jsontext.specs.Values.{J, Array, Object, item_parts, member_parts, array, form, value}
use Rattle.jsontrace.specs.Order.{ordered, ordered_items, ordered_members}
use Rattle.jsontrace.specs.Trace.{Tables, ◌⊕◌, value as value·Trace, members, Next as Next-as_Trace, many, after_run, holding, value_adds, items_add, members_add}
use Rattle.jsontrace.proofs.Laws.Trace.{Shaped, shaped-items, shaped-parts, shaped-members, shaped-value, ◌then◌}
use Rattle.jsonread.proofs.Spelling.{came}
use Rattle.jsonroom.specs.declared.Bodies.{Bodies}
use Rattle.jsonroom.specs.declared.Next.{Next}
use Rattle.jsonroom.specs.Put.{ValuePut}
use Rattle.jsonparts.specs.Flat.{scalar}
use Rattle.jsonruns.specs.Good.{Good}
use Rattle.jsonruns.proofs.Runs.{same-got}
use Rattle.jsonruns.specs.Forms.{form_read}
use Rattle.jsoncount.specs.Sizes.{object_read, braced_read}
use Rattle.jsoncount.proofs.Nested.{has_level, value-below, array-is, scalar_is, braced-is, object-is, entity-is, extension-is}
use Rattle.jsonview.specs.Room.{Ready, Adds, numbers}
use Rattle.jsonview.specs.Showing.{grown-value}
use Rattle.jsonview.proofs.Adding.{ready-first, ready-second, adds_then}
use Rattle.jsonview.proofs.Rows.{plus_assoc, ready-values, member-words}
use Rattle.jsonadds.specs.declared.Many.{Many}
use Rattle.jsonadds.specs.Place.{Due, WroteTo, AddsTo, Spare, Stays, CountTold, SortTold, PartsDue, PartsWritten, array_tables, array_value, object_value, items_tables, parts_tables, value_tables, named, named_items, named_members}
use Rattle.jsonadds.proofs.Items.{items-long, many-items}
use Rattle.jsonadds.proofs.Members.{parts-long}
use Rattle.jsonadds.proofs.Named.{many-ordered, many-members, inside-ordered}

-- ---- what was read is made into something else

module _ {A B : Type 0} (f : A → B) {line : List ℕ} {at i : ℕ} {r : Read B} {m : Read A} (e : r ≡ mapped f m) {b : Bodies} {n : Next} (t : B → Next-as_Trace → Tables) where
  pub due-from : {file : List ℕ} → i ≤ length line → Due line at r file b n t → Due line i m file b n (λ a k. t (f a) k)
  due-from {file} h d =
      let c = came f m (sym e ∙ d.is) in
      record { what = c.what; rest = d.rest; within = h; is = c.is; ready = subst (λ (x : B). Ready file b n (t x (numbers n))) c.makes d.ready }

  pub wrote-from : {before after : List ℕ} {w-next : Next} {w-end : ℕ} → at ≤ i → WroteTo line i m before after b n (λ a k. t (f a) k) w-next w-end → WroteTo line at r before after b n t w-next w-end
  wrote-from {before} {after} {w-next} {w-end} h p = record {
    from = omega (arith, p.from);
    within = p.within;
    is = λ what rest q. p.is _ rest (came f m (sym e ∙ q)).is;
    adds = λ what rest q. let c = came f m (sym e ∙ q) in subst (λ (x : B). Adds before after b n (t x (numbers n)) w-next) (sym c.makes) (p.adds c.what rest c.is);
  }

pub spare-from : {A B : Type 0} (f : A → B) {r : Read B} {m : Read A} {names : List ℕ} {used : ℕ} (count : B → ℕ) → r ≡ mapped f m → Spare r names used count → Spare m names used (λ a. count (f a))
unfolding then
spare-from f {r} {m} count e s = record { is = λ what rest q. s.is (f what) rest (e ∙ made m q) }
  where
    made : (m : Read _) {a : _} {rest : List ℕ} → m ≡ got a rest → mapped f m ≡ got (f a) rest
    made m q = rw q

-- the same reading, from an earlier place
module _ {A : Type 0} {line : List ℕ} {at i : ℕ} {r m : Read A} (e : r ≡ m) {b : Bodies} {n : Next} (t : A → Next-as_Trace → Tables) where
  pub due-at : {file : List ℕ} → i ≤ length line → Due line at r file b n t → Due line i m file b n t
  due-at h d = record { what = d.what; rest = d.rest; within = h; is = sym e ∙ d.is; ready = d.ready }

  pub wrote_at : {before after : List ℕ} {w-next : Next} {w-end : ℕ} → at ≤ i → WroteTo line i m before after b n t w-next w-end → WroteTo line at r before after b n t w-next w-end
  wrote_at h p = record { from = omega (arith, p.from); within = p.within; is = λ what rest q. p.is what rest (sym e ∙ q); adds = λ what rest q. p.adds what rest (sym e ∙ q) }

pub spare-at : {A : Type 0} {r m : Read A} {names : List ℕ} {used : ℕ} {count : A → ℕ} → r ≡ m → Spare r names used count → Spare m names used count
spare-at e s = record { is = λ what rest q. s.is what rest (e ∙ q) }

-- ---- a record behind a run and what its parts add

pub value-adds : {file after : List ℕ} {b : Bodies} {n m : Next} (kind x y : ℕ) → ValuePut file after b n kind x y m → Adds file after b n (value·Trace kind x y) m
value-adds kind x y p r s f = grown-value kind x y s f p

-- the tables of an array or object: its run with what its parts add, then its record
held : (kind : ℕ) (k : Next-as_Trace) (count : ℕ) (inner : List (List ℕ) × Tables) → holding kind k count inner ≡ (members inner.0 ⊕ inner.1) ⊕ value·Trace kind k.member count
unfolding holding
held kind k count inner = sym (plus_assoc (members inner.0) inner.1 (value·Trace kind k.member count))

array-held : (js : List J) (k : Next-as_Trace) → array_value js k ≡ array_tables js k ⊕ value·Trace 6 k.member (length js)
unfolding ordered value_adds items_tables
array-held js k = held 6 k (many (ordered_items (item_parts js))) (items_add (ordered_items (item_parts js)) (after_run k (many (ordered_items (item_parts js))))) ∙ ap (λ (c : ℕ). array_tables js k ⊕ value·Trace 6 k.member c) (many-items js)

abbrev object_tables : List (List ℕ × J) → Next-as_Trace → Tables
object_tables ms k = parts_tables (ordered_members (member_parts ms)) k

object-held : (ms : List (List ℕ × J)) (k : Next-as_Trace) → object_value ms k ≡ object_tables ms k ⊕ value·Trace 7 k.member (length ms)
unfolding ordered value_adds parts_tables
object-held ms k =
    held 7 k (many (ordered_members (member_parts ms))) (members_add (ordered_members (member_parts ms)) (after_run k (many (ordered_members (member_parts ms)))))
    ∙ ap (λ (c : ℕ). object_tables ms k ⊕ value·Trace 7 k.member c) (many-ordered (member_parts ms) ∙ many-members ms)

run-shaped : (js : List J) (k : Next-as_Trace) → Shaped (array_tables js k)
unfolding items_tables
run-shaped js k =
    let h = shaped-items (ordered_items (item_parts js)) (after_run k (many (ordered_items (item_parts js)))) in
    ◌then◌ (shaped-members _ h.0) h.1

parts-shaped : (ms : List (List ℕ × J)) (k : Next-as_Trace) → Shaped (object_tables ms k)
unfolding parts_tables
parts-shaped ms k =
    let h = shaped-parts (ordered_members (member_parts ms)) (after_run k (many (ordered_members (member_parts ms)))) in
    ◌then◌ (shaped-members _ h.0) h.1

run_long : (js : List J) (k : Next-as_Trace) → length js ≤ length (array_tables js k).members
unfolding items_tables members ◌⊕◌
run_long js k =
    let inner = items_add (ordered_items (item_parts js)) (after_run k (many (ordered_items (item_parts js)))) in
    omega (arith, length-append inner.0 inner.1.members, items-long (ordered_items (item_parts js)) (after_run k (many (ordered_items (item_parts js)))), many-items js)

parts-run-long : (ms : List (List ℕ × J)) (k : Next-as_Trace) → many (ordered_members (member_parts ms)) ≤ length (object_tables ms k).members
unfolding parts_tables members ◌⊕◌
parts-run-long ms k =
    let inner = members_add (ordered_members (member_parts ms)) (after_run k (many (ordered_members (member_parts ms)))) in
    omega (arith, length-append inner.0 inner.1.members, parts-long (ordered_members (member_parts ms)) (after_run k (many (ordered_members (member_parts ms)))))

-- of tables and a record behind them: each is ready in its turn, and both are written
module _ {A : Type 0} {m : Read A} {line : List ℕ} {at : ℕ} {file : List ℕ} {b : Bodies} {n : Next} {all : A → Next-as_Trace → Tables} (run : A → Next-as_Trace → Tables) (kind : ℕ) (count : A → ℕ) (is : (a : A) (k : Next-as_Trace) → all a k ≡ run a k ⊕ value·Trace kind k.member (count a)) (d : Due line at m file b n all) where
  held-ready : Ready file b n (run d.what (numbers n) ⊕ value·Trace kind (numbers n).member (count d.what))
  held-ready = subst (λ (t : Tables). Ready file b n t) (is d.what (numbers n)) d.ready

  run-ready : Ready file b n (run d.what (numbers n))
  run-ready = ready-first (run d.what (numbers n)) _ held-ready

  run-due : Due line at m file b n run
  run-due = record { what = d.what; rest = d.rest; within = d.within; is = d.is; ready = run-ready }

  module _ (s : (a : A) (k : Next-as_Trace) → Shaped (run a k)) {after : List ℕ} {next : Next} (p : Adds file after b n (run d.what (numbers n)) next) where
    record_ready : length after ≡ length file → Ready after b next (value·Trace kind (numbers n).member (count d.what))
    record_ready l = ready-second (run d.what (numbers n)) _ (s d.what (numbers n)) held-ready p l

    record_room : length after ≡ length file → b.values + 16 * next.value + 16 ≤ length after
    unfolding value·Trace
    record_room l = omega (arith, ready-values (record_ready l))

    record_added : {last : List ℕ} {x y : ℕ} {k : Next} → ValuePut after last b next kind x y k → x ≡ n.member → y ≡ count d.what → Adds file last b n (all d.what (numbers n)) k
    unfolding numbers
    record_added {last} {x} {y} {k} v e f =
        subst (λ (t : Tables). Adds file last b n t k) (sym (is d.what (numbers n)))
        (adds_then (run d.what (numbers n)) (value·Trace kind n.member (count d.what)) (s d.what (numbers n)) (shaped-value kind _ _) p
        (subst (λ (z : ℕ). Adds after last b next (value·Trace kind z (count d.what)) k) e (subst (λ (z : ℕ). Adds after last b next (value·Trace kind x z) k) f (value-adds kind x y v))))

-- ---- arrays

module _ (levels : ℕ) {line : List ℕ} {at : ℕ} {file : List ℕ} {b : Bodies} {n : Next} (d : Due line at (array (value levels) (drop at line)) file b n array_value) where
  pub array-good : Good line at (array (value levels) (drop at line))
  array-good = record { what = d.what; rest = d.rest; within = d.within; is = d.is }

  pub items-due : Due line at (array (value levels) (drop at line)) file b n array_tables
  items-due = run-due array_tables 6 length array-held d

  pub array-member : n.member ≤ 4294967295
  array-member = omega (arith, member-words d.ready)

  module _ {c : Many} (t : CountTold line at (array (value levels) (drop at line)) c) where
    count-is : c.count ≡ length d.what
    count-is = t.many_is.is d.what d.rest d.is

    pub array_count : c.count ≤ 4294967295
    array_count = omega (arith, member-words (run-ready array_tables 6 length array-held d), count-is, run_long d.what (numbers n))

    module _ {after : List ℕ} {next : Next} (p : AddsTo (array (value levels) (drop at line)) file after b n array_tables next) where
      added : Adds file after b n (array_tables d.what (numbers n)) next
      added = p.adds d.what d.rest d.is

      pub array-room : length after ≡ length file → b.values + 16 * next.value + 16 ≤ length after
      array-room l = record_room array_tables 6 length array-held d run-shaped added l

      pub array-wrote : {last : List ℕ} {x y : ℕ} {k : Next} → ValuePut after last b next 6 x y k → x ≡ n.member → y ≡ c.count → WroteTo line at (array (value levels) (drop at line)) file last b n array_value k c.end
      array-wrote {last} {k = k} v e f = record {
        from = t.from;
        within = t.within;
        is = t.is;
        adds = λ what rest q. subst (λ (js : List J). Adds file last b n (array_value js (numbers n)) k) (same-got d.is q) (record_added array_tables 6 length array-held d run-shaped added v e (f ∙ count-is));
      }

-- ---- objects

module _ (levels : ℕ) {line : List ℕ} {at : ℕ} {file : List ℕ} {b : Bodies} {n : Next} (d : Due line at (object_read levels (drop at line)) file b n object_value) where
  pub object-good : Good line at (object_read levels (drop at line))
  object-good = record { what = d.what; rest = d.rest; within = d.within; is = d.is }

  pub object-member : n.member ≤ 4294967295
  object-member = omega (arith, member-words d.ready)

  module _ {names sorted : List ℕ} {used : ℕ} {c : Many} (t : SortTold levels line at (object_read levels (drop at line)) names sorted used c) where
    sorted-many : c.count ≡ many (ordered_members (member_parts d.what))
    sorted-many = t.many_is.is d.what d.rest d.is ∙ sym (many-ordered (member_parts d.what) ∙ many-members d.what)

    pub object-count : c.count ≤ 4294967295
    object-count = omega (arith, member-words (run-ready object_tables 7 length object-held d), sorted-many, parts-run-long d.what (numbers n))

    pub object-parts : Spare (object_read levels (drop at line)) names used named_members → PartsDue levels line sorted used (used + c.count) file b n
    unfolding named
    object-parts s = record {
      parts = ordered_members (member_parts d.what);
      cells = t.cells d.what d.rest d.is;
      many_is = omega (arith, sorted-many);
      ready = run-ready object_tables 7 length object-held d;
      spare = omega (arith, s.is d.what d.rest d.is, sorted-many, many-ordered (member_parts d.what), inside-ordered (member_parts d.what), t.stays.long);
    }

    module _ {after last-names : List ℕ} {next : Next} (p : PartsWritten levels line sorted last-names used (used + c.count) file after b n next) where
      parts_added : Adds file after b n (object_tables d.what (numbers n)) next
      parts_added = p.adds (ordered_members (member_parts d.what)) (t.cells d.what d.rest d.is) (omega (arith, sorted-many))

      pub object-room : length after ≡ length file → b.values + 16 * next.value + 16 ≤ length after
      object-room l = record_room object_tables 7 length object-held d parts-shaped parts_added l

      pub object-stays : Stays used names last-names
      object-stays = record { long = omega (arith, p.stays.long, t.stays.long); same = λ k h. p.stays.same k (omega arith) ∙ t.stays.same k h }

      pub object-wrote : {last : List ℕ} {x y : ℕ} {k : Next} → ValuePut after last b next 7 x y k → x ≡ n.member → y ≡ c.count → WroteTo line at (object_read levels (drop at line)) file last b n object_value k c.end
      object-wrote {last} {k = k} v e f = record {
        from = t.from;
        within = t.within;
        is = t.is;
        adds = λ what rest q. subst (λ (ms : List (List ℕ × J)). Adds file last b n (object_value ms (numbers n)) k) (same-got d.is q) (record_added object_tables 7 length object-held d parts-shaped parts_added v e (f ∙ t.many_is.is d.what d.rest d.is));
      }

-- ---- an object or a form

module _ (levels : ℕ) {line : List ℕ} {at : ℕ} {file : List ℕ} {b : Bodies} {n : Next} (d : Due line at (braced_read levels (drop at line)) file b n value_tables) where
  braced-good : Good line at (braced_read levels (drop at line))
  braced-good = record { what = d.what; rest = d.rest; within = d.within; is = d.is }

  pub braced-within : at ≤ length line
  braced-within = d.within

  module _ {x : Form} (k : x ≡ form (drop at line)) where
    module _ (z : x ≡ Plain) where
      pub plain-due : Due line at (object_read levels (drop at line)) file b n object_value
      plain-due = due-from (λ ms. Object (member_parts ms)) (object-is levels braced-good k z) value_tables d.within d

      pub plain-spare : {names : List ℕ} {used : ℕ} → Spare (braced_read levels (drop at line)) names used named → Spare (object_read levels (drop at line)) names used named_members
      plain-spare s = spare-from (λ ms. Object (member_parts ms)) named (object-is levels braced-good k z) s

      pub plain-wrote : {after : List ℕ} {w-next : Next} {w-end : ℕ} → WroteTo line at (object_read levels (drop at line)) file after b n object_value w-next w-end → WroteTo line at (braced_read levels (drop at line)) file after b n value_tables w-next w-end
      plain-wrote p = wrote-from (λ ms. Object (member_parts ms)) (object-is levels braced-good k z) value_tables (omega arith) p

    module _ (z : x ≡ Entity) where
      pub entity-due : Due line at (form_read false (drop at line)) file b n value_tables
      entity-due = due-at (entity-is levels braced-good k z) value_tables d.within d

      pub entity-wrote : {after : List ℕ} {w-next : Next} {w-end : ℕ} → WroteTo line at (form_read false (drop at line)) file after b n value_tables w-next w-end → WroteTo line at (braced_read levels (drop at line)) file after b n value_tables w-next w-end
      entity-wrote p = wrote_at (entity-is levels braced-good k z) value_tables (omega arith) p

    module _ (z : x ≡ Extension) where
      pub extension-due : Due line at (form_read true (drop at line)) file b n value_tables
      extension-due = due-at (extension-is levels braced-good k z) value_tables d.within d

      pub extension-wrote : {after : List ℕ} {w-next : Next} {w-end : ℕ} → WroteTo line at (form_read true (drop at line)) file after b n value_tables w-next w-end → WroteTo line at (braced_read levels (drop at line)) file after b n value_tables w-next w-end
      extension-wrote p = wrote_at (extension-is levels braced-good k z) value_tables (omega arith) p

-- ---- a value

module _ (levels : ℕ) {line : List ℕ} {at : ℕ} {file : List ℕ} {b : Bodies} {n : Next} (d : Due line at (value levels (drop at line)) file b n value_tables) where
  value-good : Good line at (value levels (drop at line))
  value-good = record { what = d.what; rest = d.rest; within = d.within; is = d.is }

  pub value-here : at < length line
  value-here = value-below levels value-good

  pub value_level : 1 ≤ levels
  value_level = has_level levels value-good

  pub array-deeper : {t : ℕ} → 4 * levels ≡ t → 4 * (levels - 1) + 2 < t
  array-deeper e = omega (arith, value_level)

  pub braced-deeper : {t : ℕ} → 4 * levels ≡ t → 4 * (levels - 1) + 3 < t
  braced-deeper e = omega (arith, value_level)

  module _ (q : get_or line at 0 ≡ 91) where
    pub value-array-due : Due line (at + 1) (array (value (levels - 1)) (drop (at + 1) line)) file b n array_value
    value-array-due = due-from (λ js. Array (item_parts js)) (array-is levels value-good q) value_tables (omega (arith, value-here)) d

    pub value-array-spare : {names : List ℕ} {used : ℕ} → Spare (value levels (drop at line)) names used named → Spare (array (value (levels - 1)) (drop (at + 1) line)) names used named_items
    value-array-spare s = spare-from (λ js. Array (item_parts js)) named (array-is levels value-good q) s

    pub value-array : {after : List ℕ} {w-next : Next} {w-end : ℕ} → WroteTo line (at + 1) (array (value (levels - 1)) (drop (at + 1) line)) file after b n array_value w-next w-end → WroteTo line at (value levels (drop at line)) file after b n value_tables w-next w-end
    value-array p = wrote-from (λ js. Array (item_parts js)) (array-is levels value-good q) value_tables (omega arith) p

  module _ (q : get_or line at 0 ≡ 123) where
    pub value-braced-due : Due line (at + 1) (braced_read (levels - 1) (drop (at + 1) line)) file b n value_tables
    value-braced-due = due-at (braced-is levels value-good q) value_tables (omega (arith, value-here)) d

    pub value-braced-spare : {names : List ℕ} {used : ℕ} → Spare (value levels (drop at line)) names used named → Spare (braced_read (levels - 1) (drop (at + 1) line)) names used named
    value-braced-spare s = spare-at (braced-is levels value-good q) s

    pub value-braced : {after : List ℕ} {w-next : Next} {w-end : ℕ} → WroteTo line (at + 1) (braced_read (levels - 1) (drop (at + 1) line)) file after b n value_tables w-next w-end → WroteTo line at (value levels (drop at line)) file after b n value_tables w-next w-end
    value-braced p = wrote_at (braced-is levels value-good q) value_tables (omega arith) p

  module _ (a : get_or line at 0 ≡ 91 → ⊥) (q : get_or line at 0 ≡ 123 → ⊥) where
    pub value-flat-due : Due line at (scalar (drop at line)) file b n value_tables
    value-flat-due = due-at (scalar_is levels value-good a q) value_tables d.within d

    pub value-flat : {after : List ℕ} {w-next : Next} {w-end : ℕ} → WroteTo line at (scalar (drop at line)) file after b n value_tables w-next w-end → WroteTo line at (value levels (drop at line)) file after b n value_tables w-next w-end
    value-flat p = wrote_at (scalar_is levels value-good a q) value_tables (omega arith) p

pub stays_self : (used : ℕ) (names : List ℕ) → Stays used names names
stays_self used names = record { long = refl; same = λ k h. refl }
