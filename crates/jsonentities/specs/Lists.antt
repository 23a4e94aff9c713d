-- A list word with its mark, written, and list words that stand before a value's tables
use Rattle.std.specs.Prelude.{◌≡◌, refl, List, [], ◌∷◌, ◌++◌, ℕ, ◌+◌, ◌*◌, ◌≤◌, length}
use Rattle.std.proofs.Common.{sym, ap, subst, ◌∙◌, append-nil, arith}
use Rattle.meaning.specs.Case.{places}
use Rattle.encode.specs.Words.{packed}
use Rattle.encode.specs.Encode.{flat, placed}
use Rattle.encode.proofs.Laws.Words.{packed-long}
use Rattle.jsontext.specs.Values.{Object}
use Rattle.jsontext.specs.Events.{Item}
use Rattle.jsontrace.specs.Order.{ordered_members}
use Rattle.jsontrace.specs.Trace.{Tables, ◌⊕◌, texts, lists, Next as Next-as_Trace, past, last_value, value_adds, naming, entity_adds}
use Rattle.jsontrace.proofs.Laws.Trace.{Shaped, shaped-texts, shaped-lists, ◌then◌}
use Rattle.jsonroom.specs.declared.Bodies.{Bodies}
use Rattle.jsonroom.specs.declared.Next.{Next}
use Rattle.jsonroom.specs.Put.{with_list, ListPut}
use Rattle.jsonview.specs.Cells.{writing, write-nothing}
use Rattle.jsonview.specs.Room.{Room, Shows, filled, beyond, Fit, Grown, Ready, numbers}
use Rattle.jsonview.specs.Filling.{numbers-beyond}
use Rattle.jsonview.specs.Showing.{in_lists, same-room, same_next, with_none}
use Rattle.jsonview.proofs.Rows.{shows-long}
use Rattle.jsonentry.specs.Marks.{marks_of, MarkReady, MarkAdds}
use Rattle.jsonentry.specs.NoLists.{ButLists, adds_but, no-lists}
use Rattle.jsonentities.specs.Order.{arranged_item}
use Rattle.jsonentities.specs.Put.{named_tables, keys_tables, attributes_tables, entity_tables}

-- ---- one list word

grown-list : {file after marks marks' : List ℕ} {b : Bodies} {r : Room} {n m : Next} (word mark : ℕ) → Shows file b r → Fit r n (lists ((word, mark) ∷ [])) → ListPut file after marks marks' b n word mark m → Grown after b r n (lists ((word, mark) ∷ [])) m
unfolding filled beyond lists with_list flat placed
grown-list {after = after} {b = b} {r = r} {n = n} word mark s f p = record {
  shows =
      let z : 4 * n.list + length (packed (word ∷ [])) ≤ length r.lists = omega (arith, f.lists, packed-long (word ∷ [])) in
      subst (λ (q : Room). Shows after b q)
      (same-room (with_none r.strings (8 * n.string)) (with_none r.values (16 * n.value)) (with_none r.members (8 * n.member)) (with_none r.points (48 * n.point)) refl (sym (write-nothing r.text n.byte)))
      (in_lists s (4 * n.list) p.is z);
  next = p.next ∙ same_next (omega arith) (omega arith) (omega arith) (omega arith) refl (omega arith);
}

pub list-adds : {file after marks marks' : List ℕ} {b : Bodies} {n m : Next} (word mark : ℕ) → ListPut file after marks marks' b n word mark m → MarkAdds file after marks marks' b n (lists ((word, mark) ∷ [])) m
unfolding marks_of lists
list-adds word mark p r s f h = record { grown = grown-list word mark s f p; marked = writing p.mark-is }

pub ready-lists : {file : List ℕ} {b : Bodies} {n : Next} {t : Tables} → Ready file b n t → b.lists + 4 * (n.list + length t.lists) ≤ length file
ready-lists g = omega (arith, g.fit.lists, shows-long g.shows, g.shows.text, g.shows.end)

-- the numbers after tables that fit
mark-next : {before file marks marks' : List ℕ} {b : Bodies} {n m : Next} {t : Tables} → MarkReady before marks b n t → MarkAdds before file marks marks' b n t m → m ≡ beyond n t
mark-next g p = (p g.ready.room g.ready.shows g.ready.fit g.for-marks).grown.next

pub mark-numbers : {before file marks marks' : List ℕ} {b : Bodies} {n m : Next} (t : Tables) → MarkReady before marks b n t → MarkAdds before file marks marks' b n t m → numbers m ≡ past (numbers n) t
mark-numbers {n = n} t g p = ap numbers (mark-next g p) ∙ numbers-beyond n t

-- ---- list words before tables that have none

same_tables : {a a' v v' m m' p p' : List (List ℕ)} {l l' : List (ℕ × ℕ)} → a ≡ a' → v ≡ v' → m ≡ m' → p ≡ p' → l ≡ l' → ◌≡◌ {A = Tables} (record { texts = a; values = v; members = m; points = p; lists = l }) (record { texts = a'; values = v'; members = m'; points = p'; lists = l' })
same_tables a v m p l = cc

lists-first : (a : List (List ℕ)) (x z : List (ℕ × ℕ)) (t : Tables) → t.lists ≡ [] → texts a ⊕ t ⊕ lists (x ++ z) ≡ (texts a ⊕ lists x) ⊕ (t ⊕ lists z)
unfolding ◌⊕◌ texts lists
lists-first a x z t e = same_tables (ap (λ (l : List (List ℕ)). l ++ (t.texts ++ [])) (sym (append-nil a))) refl refl refl (ap (λ (l : List (ℕ × ℕ)). l ++ (x ++ z)) e ∙ sym (ap (λ (l : List (ℕ × ℕ)). x ++ (l ++ z)) e))

-- ---- an entity

pub shaped-named : (t : List ℕ) (k : Next-as_Trace) → Shaped (named_tables t k)
unfolding named_tables
shaped-named t k = shaped-texts (t ∷ []) then shaped-lists ((k.string, 1) ∷ [])

pub shaped-keys : (i : Item) (k : Next-as_Trace) → Shaped (keys_tables i k)
unfolding keys_tables
shaped-keys i k = shaped-named i.type k then shaped-named i.id (past k (named_tables i.type k))

abbrev both : Item → Tables
both i = texts (i.type ∷ i.id ∷ [])

keys-are : (i : Item) (k : Next-as_Trace) → keys_tables i k ≡ both i ⊕ lists (naming k.string 2)
unfolding keys_tables named_tables ◌⊕◌ texts lists naming places past
keys-are i k = refl

keys_but : (i : Item) (k : Next-as_Trace) → ButLists (past k (both i)) (past k (keys_tables i k))
unfolding keys_tables named_tables ◌⊕◌ texts lists past
keys_but i k = record { string = refl; value = refl; member = refl }

keys-value : (i : Item) (k : Next-as_Trace) (t : Tables) → last_value k t ≡ last_value (past k (keys_tables i k)) t
unfolding last_value keys_tables named_tables ◌⊕◌ texts lists past
keys-value i k t = omega arith

pub entity-is : (i : Item) (k : Next-as_Trace) → entity_tables i k ≡ keys_tables i k ⊕ attributes_tables i.attributes (past k (keys_tables i k))
unfolding entity_tables entity_adds arranged_item attributes_tables
entity-is i k =
    let held = Object (ordered_members i.attributes) in
    let t = value_adds held (past k (both i)) in
    let u = value_adds held (past k (keys_tables i k)) in
    let e : t ≡ u = adds_but held (keys_but i k) in
    lists-first (i.type ∷ i.id ∷ []) (naming k.string 2) ((last_value k t, 0) ∷ []) t (no-lists held (past k (both i)))
    ∙ ap (λ (x : Tables). x ⊕ (t ⊕ lists ((last_value k t, 0) ∷ []))) (sym (keys-are i k))
    ∙ ap (λ (x : ℕ). keys_tables i k ⊕ (t ⊕ lists ((x, 0) ∷ []))) (keys-value i k t)
    ∙ ap (λ (x : Tables). keys_tables i k ⊕ (x ⊕ lists ((last_value (past k (keys_tables i k)) x, 0) ∷ []))) e
