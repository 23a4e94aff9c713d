-- An entity's attributes with the word that names them; an entity
use mathlib.Core.Path.{◌≡◌, sym, ap, subst, ◌∙◌}
use mathlib.Core.List.{List, [], ◌∷◌}
use Prim.Native.Nat.{ℕ, ◌+◌, ◌-◌, ◌≤◌}
use native.Mathlib.Omega.{arith}
use lib.ListN.{length, drop}
use Rattle.jsontext.specs.Reading.{got}
use Rattle.jsontext.specs.Values.{J, Parts, Object, member_parts, fields}
use Rattle.jsontext.specs.Events.{Item}
use Rattle.jsontrace.specs.Order.{ordered, ordered_members}
use Rattle.jsontrace.specs.Trace.{Tables, ◌⊕◌, lists, Next as Next-as_Trace, past, last_value, value_adds}
use Rattle.jsontrace.proofs.Laws.Trace.{Shaped, shaped, shaped-lists, ◌then◌}
use Rattle.jsonroom.specs.declared.Bodies.{Bodies}
use Rattle.jsonroom.specs.declared.Next.{Next}
use Rattle.jsonroom.specs.Put.{ListRoom, ListPut}
use Rattle.jsonruns.proofs.Runs.{same-got}
use Rattle.jsoncount.specs.Sizes.{object_read, entity_read}
use Rattle.jsoncount.proofs.Triples.{byte-below, byte_left, Fielded, fielded}
use Rattle.jsonview.specs.Room.{Ready, Adds, beyond, numbers}
use Rattle.jsonview.proofs.Adding.{ready-first, ready-second}
use Rattle.jsonview.proofs.Rows.{adds-next, value-words}
use Rattle.jsonadds.specs.Place.{PlaceDue, Placed, object_value, named, named_members}
use Rattle.jsonadds.proofs.Items.{value-one}
use Rattle.jsonentry.specs.Marks.{MarkReady, MarkAdds}
use Rattle.jsonentry.specs.Marking.{mark-none, mark-then, mark-ready-first, mark-ready-second}
use Rattle.jsonentry.specs.NoLists.{no-lists}
use Rattle.jsonentities.specs.Put.{MarkDue, KeysWritten, HeldDue, HeldWritten, keys_tables, attributes_tables, entity_tables, named_fields, named_item}
use Rattle.jsonentities.specs.Lists.{list-adds, ready-lists, mark-numbers, shaped-keys, entity-is}

-- ---- attributes

module _ {line : List ℕ} {at : ℕ} {file marks : List ℕ} {b : Bodies} {n : Next} {names : List ℕ} {used : ℕ} (d : HeldDue line at (fields 31 (drop at line)) file marks b n attributes_tables names used named_fields) where
  it : Fielded 31 (drop at line) d.due.what d.due.rest
  it = fielded 31 (drop at line) d.due.is

  abbrev held : Tables
  held = value_adds (Object (ordered_members d.due.what)) (numbers n)

  abbrev word : Tables
  word = lists ((last_value (numbers n) held, 0) ∷ [])

  held-ready : MarkReady file marks b n (held ⊕ word)
  unfolding attributes_tables
  held-ready = d.due.ready

  held-shaped : Shaped held
  held-shaped = shaped (Object (ordered_members d.due.what)) (numbers n)

  -- as its members are read
  object-here : object_read 31 (drop (at + 1) line) ≡ got it.made.what d.due.rest
  object-here = ap (object_read 31) (byte_left line at it.brace) ∙ it.made.is

  held-is : object_value it.made.what (numbers n) ≡ held
  unfolding ordered
  held-is = ap (λ (ps : Parts). value_adds (Object (ordered_members ps)) (numbers n)) (sym it.made.makes)

  pub attributes-due : PlaceDue line (at + 1) (object_read 31 (drop (at + 1) line)) file b n object_value names used named_members
  unfolding named_fields
  attributes-due = record {
    due = record {
      what = it.made.what;
      rest = d.due.rest;
      within = omega (arith, byte-below line at it.brace);
      is = object-here;
      ready = subst (λ (t : Tables). Ready file b n t) (sym held-is) (ready-first held word held-ready.ready);
    };
    spare = record {
      is = λ what rest e.
          let z : named (Object (member_parts what)) ≡ named (Object d.due.what) = ap (λ (ms : List (List ℕ × J)). named (Object (member_parts ms))) (same-got e object-here) ∙ ap (λ (ps : Parts). named (Object ps)) (sym it.made.makes) in
          omega (arith, z, d.spare.is d.due.what d.due.rest d.due.is);
    };
  }

  module _ {after names' : List ℕ} {w-next : Next} {w-end : ℕ} (p : Placed line (at + 1) (object_read 31 (drop (at + 1) line)) file after b n object_value w-next w-end used names names') where
    held-added : Adds file after b n held w-next
    held-added = subst (λ (t : Tables). Adds file after b n t w-next) held-is (p.told.adds it.made.what d.due.rest object-here)

    next-is : w-next ≡ beyond n held
    next-is = adds-next (ready-first held word held-ready.ready) held-added

    number_is : last_value (numbers n) held ≡ w-next.value - 1
    unfolding last_value numbers beyond
    number_is = ap (λ (k : Next). k.value - 1) (sym next-is)

    next-list : w-next.list ≡ n.list
    unfolding beyond
    next-list = ap (λ (k : Next). k.list) next-is ∙ omega (arith, ap length (no-lists (Object (ordered_members d.due.what)) (numbers n)))

    pub attributes-some : 1 ≤ w-next.value
    unfolding beyond
    attributes-some = omega (arith, ap (λ (k : Next). k.value) next-is, value-one (Object (ordered_members d.due.what)) (numbers n))

    pub attributes-room : length after ≡ length file → ListRoom after marks b w-next (w-next.value - 1)
    unfolding beyond lists ◌⊕◌
    attributes-room l = record {
      fits = omega (arith, ready-lists (ready-second held word held-shaped held-ready.ready held-added l));
      marked = omega (arith, (mark-ready-second held word held-shaped held-ready (mark-none held (no-lists (Object (ordered_members d.due.what)) (numbers n)) held-added) l).for-marks);
      is_word = omega (arith, ap (λ (k : Next). k.value) next-is, value-words (ready-first held word held-ready.ready));
    }

    pub attributes-wrote : {last marks' : List ℕ} {k : Next} → ListPut after last marks marks' b w-next (w-next.value - 1) 0 k → HeldWritten (fields 31 (drop at line)) file last marks marks' b n attributes_tables k used names names'
    unfolding attributes_tables
    attributes-wrote {last} {marks'} {k} v = record {
      adds = λ what rest e.
          subst (λ (ps : Parts). MarkAdds file last marks marks' b n (attributes_tables ps (numbers n)) k) (same-got d.due.is e)
          (mark-then held word held-shaped (shaped-lists ((last_value (numbers n) held, 0) ∷ [])) (mark-none held (no-lists (Object (ordered_members d.due.what)) (numbers n)) held-added)
          (subst (λ (x : ℕ). MarkAdds after last marks marks' b w-next (lists ((x, 0) ∷ [])) k) (sym number_is) (list-adds (w-next.value - 1) 0 v)));
      stays = p.stays;
    }

-- ---- an entity

shaped-attributes : (ps : Parts) (k : Next-as_Trace) → Shaped (attributes_tables ps k)
unfolding attributes_tables
shaped-attributes ps k = shaped (Object (ordered_members ps)) k then shaped-lists _

module _ {line : List ℕ} {at : ℕ} {file marks : List ℕ} {b : Bodies} {n : Next} {names : List ℕ} {used : ℕ} (d : HeldDue line at (entity_read (drop at line)) file marks b n entity_tables names used named_item) where
  abbrev keys : Tables
  keys = keys_tables d.due.what (numbers n)

  abbrev others : Tables
  others = attributes_tables d.due.what.attributes (past (numbers n) keys)

  entity-ready : MarkReady file marks b n (keys ⊕ others)
  entity-ready = subst (λ (t : Tables). MarkReady file marks b n t) (entity-is d.due.what (numbers n)) d.due.ready

  pub keys-due : MarkDue line at (entity_read (drop at line)) file marks b n keys_tables
  keys-due = record { what = d.due.what; rest = d.due.rest; within = d.due.within; is = d.due.is; ready = mark-ready-first keys others entity-ready }

  module _ {mid marked : List ℕ} {s-next : Next} {s-end : ℕ} (p : KeysWritten line at file mid marks marked b n s-next s-end) where
    keys-added : MarkAdds file mid marks marked b n keys s-next
    keys-added = p.adds d.due.what d.due.rest d.due.is

    numbers-are : numbers s-next ≡ past (numbers n) keys
    numbers-are = mark-numbers keys (mark-ready-first keys others entity-ready) keys-added

    pub fields-due : length mid ≡ length file → HeldDue line s-end (fields 31 (drop s-end line)) mid marked b s-next attributes_tables names used named_fields
    unfolding named_item
    fields-due l =
        let a = p.is d.due.what d.due.rest d.due.is in
        record {
          due = record {
            what = d.due.what.attributes;
            rest = a.left;
            within = p.within;
            is = a.is;
            ready = subst (λ (k : Next-as_Trace). MarkReady mid marked b s-next (attributes_tables d.due.what.attributes k)) (sym numbers-are) (mark-ready-second keys others (shaped-keys d.due.what (numbers n)) entity-ready keys-added l);
          };
          spare = record { is = λ what rest e. omega (arith, ap named_fields (same-got e a.is), d.spare.is d.due.what d.due.rest d.due.is) };
        }

    pub entity-wrote : {after marks' names' : List ℕ} {k : Next} → HeldWritten (fields 31 (drop s-end line)) mid after marked marks' b s-next attributes_tables k used names names' → HeldWritten (entity_read (drop at line)) file after marks marks' b n entity_tables k used names names'
    entity-wrote {after} {marks'} {names'} {k} q = record {
      adds = λ what rest e.
          let a = p.is d.due.what d.due.rest d.due.is in
          subst (λ (i : Item). MarkAdds file after marks marks' b n (entity_tables i (numbers n)) k) (same-got d.due.is e)
          (subst (λ (t : Tables). MarkAdds file after marks marks' b n t k) (sym (entity-is d.due.what (numbers n)))
          (mark-then keys others (shaped-keys d.due.what (numbers n)) (shaped-attributes d.due.what.attributes (past (numbers n) keys)) keys-added
          (subst (λ (z : Next-as_Trace). MarkAdds mid after marked marks' b s-next (attributes_tables d.due.what.attributes z) k) numbers-are (q.adds d.due.what.attributes a.left a.is))));
      stays = q.stays;
    }
