-- An entity's parts, and an array that must be one
use Rattle.std.specs.Prelude.{Result, Ok, Err}
use mathlib.Core.Path.{◌≡◌, refl, sym, ap, ◌∙◌}
use mathlib.Core.List.{List}
use Prim.Native.Nat.{ℕ, ◌+◌, ◌<◌, ◌≤◌}
use native.Mathlib.Omega.{arith}
use lib.Dec.{eqb}
use lib.ListN.{length, drop, get_or, drop_of_length-le}
use borrow.Author.Tests.{eq-eqb, ne_eqb}
use Rattle.meaning.specs.Tests.{choose}
use Rattle.laws.specs.Tests.{yes, no as otherwise}
use Rattle.jsontext.specs.declared.Fault.{Fault}
use Rattle.jsontext.specs.declared.Fault.TheVariants.{NotJson, BadField}
use Rattle.jsontext.specs.declared.Bad.{Bad}
use Rattle.jsontext.specs.Reading.{Read, got, then, no, blanks, want, wrong}
use Rattle.jsontext.specs.Values.{Parts, begins, text, array, fields}
use Rattle.jsontext.specs.Events.{Item, comma, closing, triple, unless_none, listed}
use Rattle.jsonread.specs.Told.{Told, Blanks}
use Rattle.jsonread.proofs.Places.{byte_at, told_at, wrong-here, told_of, then_is}
use Rattle.jsonread.proofs.Then.{then-then, then_same, then_bad, then-on, after-blanks}
use Rattle.jsonread.proofs.Chars.{told_more}
use Rattle.jsonread.proofs.Firsts.{due-end, due-there, due-not}
use Rattle.jsonkeys.specs.Keys.{Room, Passed}
use Rattle.jsonkeys.proofs.Cells.{below_self}
use Rattle.jsonlines.specs.Entities.{name_of, attributes_of, entity_of}

-- ---- a string and its comma

abbrev commaed : List ℕ → List ℕ → Read (List ℕ)
commaed t s = then (comma s) (λ c rest. got t (blanks rest))

name-is : (s : List ℕ) → name_of s ≡ then (text s) (λ t rest. commaed t (blanks rest))
unfolding name_of
name-is s = refl

module _ {line : List ℕ} {at : ℕ} {x : Result ℕ Bad} (t : Told line at x (text (drop at line))) where
  pub name-unread : {b : Bad} → x ≡ Err b → Told line at (Err b) (name_of (drop at line))
  name-unread e = told_of {i = at} (omega arith) (name-is (drop at line)) (then_bad (λ t rest. commaed t (blanks rest)) t e)

  module _ {e k : ℕ} {y : Result ℕ Bad} (q : x ≡ Ok e) (b : Blanks line e k) (c : Told line k y (comma (drop k line))) where
    from-comma : {r : Result ℕ Bad} → Told line k r (commaed (t.stands e q).what (drop k line)) → Told line at r (name_of (drop at line))
    from-comma u = told_of {i = at} (omega arith) (name-is (drop at line)) (then-on (λ t rest. commaed t (blanks rest)) t q (after-blanks (commaed (t.stands e q).what) b u))

    pub name-comma : {b : Bad} → y ≡ Err b → Told line at (Err b) (name_of (drop at line))
    name-comma f = from-comma (then_bad (λ c rest. got (t.stands e q).what (blanks rest)) c f)

    pub name-there : {o v : ℕ} → y ≡ Ok o → Blanks line o v → Told line at (Ok v) (name_of (drop at line))
    name-there f d =
        from-comma (then-on (λ c rest. got (t.stands e q).what (blanks rest)) c f (told_at (record { what = (t.stands e q).what; from = d.from; within = d.within; is = ap (got (t.stands e q).what) (sym d.is) })))

-- ---- attributes

abbrev ending : Parts → List ℕ → Read Parts
ending a s = then (closing s) (λ c rest. got a rest)

attributes-is : (s : List ℕ) → attributes_of s ≡ then (fields 31 s) (λ a rest. ending a (blanks rest))
unfolding attributes_of
attributes-is s = refl

module _ {line names last : List ℕ} {used at : ℕ} {x : Result ℕ Bad} (p : Passed line names last used at x (fields 31 (drop at line))) where
  pub fields_within : {e : ℕ} → x ≡ Ok e → e ≤ length line
  fields_within q = (p.told.stands _ q).within

  pub attributes-unread : {b : Bad} → x ≡ Err b → Passed line names last used at (Err b) (attributes_of (drop at line))
  attributes-unread e = record { told = told_of {i = at} (omega arith) (attributes-is (drop at line)) (then_bad (λ a rest. ending a (blanks rest)) p.told e); below = p.below }

  pub attributes-closed : {e k : ℕ} {r : Result ℕ Bad} → x ≡ Ok e → Blanks line e k → Told line k r (closing (drop k line)) → Passed line names last used at r (attributes_of (drop at line))
  attributes-closed {e} q b c =
      record {
        told =
            told_of {i = at} (omega arith) (attributes-is (drop at line))
            (then-on (λ a rest. ending a (blanks rest)) p.told q (after-blanks (ending (p.told.stands e q).what) b (told_more (λ c. (p.told.stands e q).what) c)));
        below = p.below;
      }

-- ---- type, id, attributes

abbrev made : List ℕ → List ℕ → Parts → List ℕ → Read Item
made type id attributes rest = got (record { type = type; id = id; attributes = attributes }) rest

abbrev after_id : List ℕ → List ℕ → List ℕ → Read Item
after_id type id s = then (attributes_of s) (λ attributes rest. made type id attributes rest)

abbrev after_type : List ℕ → List ℕ → Read Item
after_type type s = then (name_of s) (λ id rest. after_id type id rest)

name-then : {A : Type 0} (s : List ℕ) (f : List ℕ → List ℕ → Read A) → then (name_of s) f ≡ then (text s) (λ t rest. then (comma (blanks rest)) (λ c rest. f t (blanks rest)))
unfolding name_of then
name-then s f =
    then-then (text s) (λ t rest. commaed t (blanks rest)) f
    ∙ then_same (text s) (λ t rest. then-then (comma (blanks rest)) (λ c rest. got t (blanks rest)) f)

attributes-then : {A : Type 0} (s : List ℕ) (f : Parts → List ℕ → Read A) → then (attributes_of s) f ≡ then (fields 31 s) (λ a rest. then (closing (blanks rest)) (λ c rest. f a rest))
unfolding attributes_of then
attributes-then s f =
    then-then (fields 31 s) (λ a rest. ending a (blanks rest)) f
    ∙ then_same (fields 31 s) (λ a rest. then-then (closing (blanks rest)) (λ c rest. got a rest) f)

triple-is : (s : List ℕ) → triple s ≡ then (name_of s) (λ type rest. after_type type rest)
unfolding triple
triple-is s =
    sym
    (name-then s (λ type rest. after_type type rest)
    ∙ then_same (text s)
    (λ type rest.
    then_same (comma (blanks rest))
    (λ c rest.
    name-then (blanks rest) (λ id rest. after_id type id rest)
    ∙ then_same (text (blanks rest))
    (λ id rest.
    then_same (comma (blanks rest)) (λ c rest. attributes-then (blanks rest) (λ attributes rest. made type id attributes rest))))))

module _ {line : List ℕ} {at : ℕ} {x : Result ℕ Bad} (names : List ℕ) (used : ℕ) (t : Told line at x (name_of (drop at line))) where
  pub triple-type : {b : Bad} → x ≡ Err b → Passed line names names used at (Err b) (triple (drop at line))
  triple-type e = record { told = told_of {i = at} (omega arith) (triple-is (drop at line)) (then_bad (λ type rest. after_type type rest) t e); below = below_self }

  module _ {id : ℕ} {y : Result ℕ Bad} (q : x ≡ Ok id) (u : Told line id y (name_of (drop id line))) where
    from-id : {r : Result ℕ Bad} → Told line id r (after_type (t.stands id q).what (drop id line)) → Told line at r (triple (drop at line))
    from-id v = told_of {i = at} (omega arith) (triple-is (drop at line)) (then-on (λ type rest. after_type type rest) t q v)

    pub triple-id : {b : Bad} → y ≡ Err b → Passed line names names used at (Err b) (triple (drop at line))
    triple-id e = record { told = from-id (then_bad (λ i rest. after_id (t.stands id q).what i rest) u e); below = below_self }

    pub triple-room : {a : ℕ} → Room line names used at 1 → y ≡ Ok a → Room line names used a 1
    triple-room {a} h e = omega (arith, h, (t.stands id q).from, (u.stands a e).from)

    pub triple-all : {a : ℕ} {r : Result ℕ Bad} {last : List ℕ} → y ≡ Ok a → Passed line names last used a r (attributes_of (drop a line)) → Passed line names last used at r (triple (drop at line))
    triple-all {a} e p =
        record {
          told =
              from-id
              (then-on (λ i rest. after_id (t.stands id q).what i rest) u e
              (told_more (λ attributes. record { type = (t.stands id q).what; id = (u.stands a e).what; attributes = attributes }) p.told));
          below = p.below;
        }

-- ---- after the bracket

module _ {line : List ℕ} {at i : ℕ} (names : List ℕ) (used : ℕ) (b : Blanks line at i) where
  pub none-cut : length line ≤ i → Passed line names names used at (Err (wrong NotJson i)) (unless_none (blanks (drop at line)))
  unfolding unless_none
  none-cut l = record { told = wrong-here b.within (ap unless_none (sym b.is) ∙ rw (drop_of_length-le line l)); below = below_self }

  module _ (h : i < length line) where
    none-byte : unless_none (blanks (drop at line)) ≡ choose (eqb (get_or line i 0) 93) (no BadField (drop i line)) (triple (drop i line))
    unfolding unless_none
    none-byte = ap unless_none (sym b.is) ∙ rw (byte_at line i h)

    pub none-missing : get_or line i 0 ≡ 93 → Passed line names names used at (Err (wrong BadField i)) (unless_none (blanks (drop at line)))
    none-missing e = record { told = wrong-here b.within (none-byte ∙ yes _ (eq-eqb _ _ e)); below = below_self }

    pub none-there : {r : Result ℕ Bad} {last : List ℕ} → (get_or line i 0 ≡ 93 → ⊥) → Passed line names last used i r (triple (drop i line)) → Passed line names last used at r (unless_none (blanks (drop at line)))
    none-there n p = record { told = told_of b.from (none-byte ∙ otherwise _ (ne_eqb _ _ n) refl) p.told; below = p.below }

-- ---- an array, and nothing else

wanted : (line : List ℕ) (at : ℕ) → at < length line → get_or line at 0 ≡ 91 → want 91 (drop at line) ≡ got (get_or line at 0) (drop (at + 1) line)
unfolding want
wanted line at h e = rw (byte_at line at h) (yes _ (eq-eqb _ _ e))

abbrev bracketed : {A : Type 0} → (List ℕ → Read A) → List ℕ → Read A
bracketed inside t = then (want 91 t) (λ bracket rest. inside rest)

module _ {A : Type 0} (inside : List ℕ → Read A) {line : List ℕ} (names : List ℕ) (used at : ℕ) where
  listed-end : at ≤ length line → length line ≤ at → Passed line names names used at (Err (wrong NotJson at)) (listed inside (drop at line))
  listed-end h l = record { told = due-end BadField (λ c. eqb c 91) (bracketed inside) line at h l; below = below_self }

  module _ (h : at < length line) where
    listed-not : {f : Fault} → (get_or line at 0 ≡ 91 → ⊥) → f ≡ choose (begins (get_or line at 0)) BadField NotJson → Passed line names names used at (Err (wrong f at)) (listed inside (drop at line))
    listed-not n q = record { told = due-not BadField 91 (bracketed inside) line at h n q; below = below_self }

    listed-there : {r : Result ℕ Bad} {last : List ℕ} → get_or line at 0 ≡ 91 → Passed line names last used (at + 1) r (inside (drop (at + 1) line)) → Passed line names last used at r (listed inside (drop at line))
    listed-there e p = record { told = due-there BadField 91 (bracketed inside) line at h e (told_of {i = at + 1} (omega arith) (then_is (λ bracket rest. inside rest) (wanted line at h e)) p.told); below = p.below }

-- an entity, and a list of entities
module _ (line names : List ℕ) (used at : ℕ) where
  pub entity-end : at ≤ length line → length line ≤ at → Passed line names names used at (Err (wrong NotJson at)) (entity_of (drop at line))
  entity-end h l = listed-end (λ t. unless_none (blanks t)) names used at h l

  pub list-end : at ≤ length line → length line ≤ at → Passed line names names used at (Err (wrong NotJson at)) (listed (array entity_of) (drop at line))
  list-end h l = listed-end (array entity_of) names used at h l

  module _ (h : at < length line) where
    pub entity-not : {f : Fault} → (get_or line at 0 ≡ 91 → ⊥) → f ≡ choose (begins (get_or line at 0)) BadField NotJson → Passed line names names used at (Err (wrong f at)) (entity_of (drop at line))
    entity-not n q = listed-not (λ t. unless_none (blanks t)) names used at h n q

    pub list-not : {f : Fault} → (get_or line at 0 ≡ 91 → ⊥) → f ≡ choose (begins (get_or line at 0)) BadField NotJson → Passed line names names used at (Err (wrong f at)) (listed (array entity_of) (drop at line))
    list-not n q = listed-not (array entity_of) names used at h n q

    pub entity-there : {r : Result ℕ Bad} {last : List ℕ} → get_or line at 0 ≡ 91 → Passed line names last used (at + 1) r (unless_none (blanks (drop (at + 1) line))) → Passed line names last used at r (entity_of (drop at line))
    entity-there e p = listed-there (λ t. unless_none (blanks t)) names used at h e p

    pub list-there : {r : Result ℕ Bad} {last : List ℕ} → get_or line at 0 ≡ 91 → Passed line names last used (at + 1) r (array entity_of (drop (at + 1) line)) → Passed line names last used at r (listed (array entity_of) (drop at line))
    list-there e p = listed-there (array entity_of) names used at h e p
