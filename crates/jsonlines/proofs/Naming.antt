-- Which field a name is, and its value
use Rattle.std.specs.Prelude.{Option, Some, None, Result, Result}
use mathlib.Core.Path.{◌≡◌, refl, sym, ap, ◌∙◌}
use mathlib.Core.Bool.{Bool, true, false}
use mathlib.Core.List.{List, [], ◌∷◌}
use Prim.Native.Nat.{ℕ, zero, suc, ◌+◌}
use native.Mathlib.Omega.{arith}
use lib.Dec.{eqb}
use lib.ListN.{drop}
use borrow.Author.Tests.{eq-eqb, ne_eqb, eqb-true, eqb-false}
use Rattle.meaning.specs.Tests.{◌and◌, choose}
use Rattle.laws.specs.Tests.{yes, no as otherwise}
use Rattle.meaning.specs.Equal.{same_list}
use Rattle.jsontext.specs.declared.Fault.TheVariants.{BadField}
use Rattle.jsontext.specs.declared.Bad.{Bad}
use Rattle.jsontext.specs.Reading.{Read, mapped}
use Rattle.jsontext.specs.Numbers.{number}
use Rattle.jsontext.specs.Values.{numeral, due, text, array, value, fields}
use Rattle.jsontext.specs.Events.{Field, Time, Namespace, Action, Kind, Logged, Context, Principal, Resource, Entities, listed}
use Rattle.jsonread.specs.declared.names.Cursor.{Cursor}
use Rattle.jsonread.specs.Told.{Told}
use Rattle.jsonread.specs.Spelling.{NextTold, WordTold}
use Rattle.jsonread.proofs.Places.{told_of}
use Rattle.jsonread.proofs.Chars.{told_more}
use Rattle.jsonread.proofs.Spelling.{spelt-string}
use Rattle.jsonkeys.specs.Keys.{Passed}
use Rattle.jsonkeys.proofs.Cells.{below_self}
use Rattle.jsonlines.specs.Entities.{entity_of}
use Rattle.jsonlines.specs.Fields.{«time», «namespace», «action», «kind», «logged», «context», «principal», «resource», «entities», field_of, IfTold, FieldTold, reader_at}

-- ---- equal lists, the other way round

eqb-turned : (a b : ℕ) → eqb a b ≡ eqb b a
eqb-turned a b =
    by (eqb a b) refl
  where
    by : (x : Bool) → eqb a b ≡ x → eqb a b ≡ eqb b a
    by true q = q ∙ sym (eq-eqb b a (sym (eqb-true a b q)))
    by false q = q ∙ sym (ne_eqb b a (λ e. eqb-false a b q (sym e)))

same-turned : (s t : List ℕ) → same_list s t ≡ same_list t s
unfolding same_list
same-turned [] [] = refl
same-turned [] (b ∷ t) = refl
same-turned (a ∷ s) [] = refl
same-turned (a ∷ s) (b ∷ t) = ap (λ (x : Bool). x and same_list s t) (eqb-turned a b) ∙ ap (λ (x : Bool). eqb b a and x) (same-turned s t)

-- ---- one word

module _ (line : List ℕ) (at : ℕ) (word : List ℕ) (k : ℕ) {y : Bool} (t : WordTold line at word y) where
  pub if_this : y ≡ true → IfTold line at word k k
  if_this e n rest q = sym (yes _ (sym (t n rest q) ∙ e))

  pub if_other : y ≡ false → IfTold line at word k 9
  if_other e n rest q = sym (otherwise _ (sym (t n rest q) ∙ e) refl)

-- ---- by the first byte

abbrev begun : ℕ → Cursor
begun at = record { at = at + 1; character = 0; left = 0 }

-- a name that begins with b is this word or none
abbrev Only : ℕ → List ℕ → ℕ → Type 0
Only b word k = (others : List ℕ) → field_of (b ∷ others) ≡ choose (same_list word (b ∷ others)) k 9

only_none : (b : ℕ) (others : List ℕ) → (b ≡ 116 → ⊥) → (b ≡ 110 → ⊥) → (b ≡ 97 → ⊥) → (b ≡ 107 → ⊥) → (b ≡ 108 → ⊥) → (b ≡ 99 → ⊥) → (b ≡ 112 → ⊥) → (b ≡ 114 → ⊥) → (b ≡ 101 → ⊥) → field_of (b ∷ others) ≡ 9
unfolding field_of same_list ◌and◌ choose
only_none b others n0 n1 n2 n3 n4 n5 n6 n7 n8 = rw (ne_eqb 116 b (λ e. n0 (sym e)), ne_eqb 110 b (λ e. n1 (sym e)), ne_eqb 97 b (λ e. n2 (sym e)), ne_eqb 107 b (λ e. n3 (sym e)), ne_eqb 108 b (λ e. n4 (sym e)), ne_eqb 99 b (λ e. n5 (sym e)), ne_eqb 112 b (λ e. n6 (sym e)), ne_eqb 114 b (λ e. n7 (sym e)), ne_eqb 101 b (λ e. n8 (sym e))) refl

module _ (line : List ℕ) (at : ℕ) {x : Option (ℕ × Cursor)} {k : Cursor} (s : k ≡ begun at) (v : NextTold line k x) where
  t : NextTold line (begun at) x
  t = rw s at v

  pub field-empty : x ≡ None → FieldTold line at 9
  unfolding field_of same_list choose
  field-empty e n rest q = sym (ap field_of (t.ended e n (spelt-string line at q)))

  module _ {b : ℕ} {c : Cursor} (e : x ≡ Some (b, c)) where
    by_first : {r : ℕ} (word : List ℕ) (k d : ℕ) → b ≡ d → Only d word k → IfTold line at word k r → FieldTold line at r
    by_first word k d f o u n rest q =
        let y = t.yields b c e n (spelt-string line at q) in
        let z : n ≡ d ∷ y.others = y.is ∙ ap (λ (b : ℕ). b ∷ y.others) f in
        u n rest q ∙ ap (λ (v : Bool). choose v k 9) (same-turned n word ∙ ap (same_list word) z) ∙ sym (ap field_of z ∙ o y.others)

    pub field-time : {r : ℕ} → b ≡ 116 → IfTold line at «time» 0 r → FieldTold line at r
    unfolding field_of same_list ◌and◌ choose
    field-time f u = by_first «time» 0 116 f (λ others. refl) u

    pub field-namespace : {r : ℕ} → b ≡ 110 → IfTold line at «namespace» 1 r → FieldTold line at r
    unfolding field_of same_list ◌and◌ choose
    field-namespace f u = by_first «namespace» 1 110 f (λ others. refl) u

    pub field-action : {r : ℕ} → b ≡ 97 → IfTold line at «action» 2 r → FieldTold line at r
    unfolding field_of same_list ◌and◌ choose
    field-action f u = by_first «action» 2 97 f (λ others. refl) u

    pub field-kind : {r : ℕ} → b ≡ 107 → IfTold line at «kind» 3 r → FieldTold line at r
    unfolding field_of same_list ◌and◌ choose
    field-kind f u = by_first «kind» 3 107 f (λ others. refl) u

    pub field-logged : {r : ℕ} → b ≡ 108 → IfTold line at «logged» 4 r → FieldTold line at r
    unfolding field_of same_list ◌and◌ choose
    field-logged f u = by_first «logged» 4 108 f (λ others. refl) u

    pub field-context : {r : ℕ} → b ≡ 99 → IfTold line at «context» 5 r → FieldTold line at r
    unfolding field_of same_list ◌and◌ choose
    field-context f u = by_first «context» 5 99 f (λ others. refl) u

    pub field-principal : {r : ℕ} → b ≡ 112 → IfTold line at «principal» 6 r → FieldTold line at r
    unfolding field_of same_list ◌and◌ choose
    field-principal f u = by_first «principal» 6 112 f (λ others. refl) u

    pub field-resource : {r : ℕ} → b ≡ 114 → IfTold line at «resource» 7 r → FieldTold line at r
    unfolding field_of same_list ◌and◌ choose
    field-resource f u = by_first «resource» 7 114 f (λ others. refl) u

    pub field-entities : {r : ℕ} → b ≡ 101 → IfTold line at «entities» 8 r → FieldTold line at r
    unfolding field_of same_list ◌and◌ choose
    field-entities f u = by_first «entities» 8 101 f (λ others. refl) u

    pub field-none : (b ≡ 116 → ⊥) → (b ≡ 110 → ⊥) → (b ≡ 97 → ⊥) → (b ≡ 107 → ⊥) → (b ≡ 108 → ⊥) → (b ≡ 99 → ⊥) → (b ≡ 112 → ⊥) → (b ≡ 114 → ⊥) → (b ≡ 101 → ⊥) → FieldTold line at 9
    field-none n0 n1 n2 n3 n4 n5 n6 n7 n8 n rest q =
        let y = t.yields b c e n (spelt-string line at q) in
        sym (ap field_of y.is ∙ only_none b y.others n0 n1 n2 n3 n4 n5 n6 n7 n8)

-- ---- a field's value

-- by its place, told with the cells as they are left
placed : {A : Type 0} {line names last : List ℕ} {used at field k : ℕ} {r : Result ℕ Bad} {m : Read A} (f : A → Field) → field ≡ k → reader_at k (drop at line) ≡ mapped f m → Passed line names last used at r m → Passed line names last used at r (reader_at field (drop at line))
placed {line = line} {at = at} f e q p = record { told = told_of (omega arith) (ap (λ (k : ℕ). reader_at k (drop at line)) e ∙ q) (told_more f p.told); below = p.below }

plainly : {A : Type 0} {line names : List ℕ} {used at : ℕ} {r : Result ℕ Bad} {m : Read A} → Told line at r m → Passed line names names used at r m
plainly t = record { told = t; below = below_self }

pub others-are : (k : ℕ) (s : List ℕ) → (k ≡ 0 → ⊥) → (k ≡ 1 → ⊥) → (k ≡ 2 → ⊥) → (k ≡ 3 → ⊥) → (k ≡ 4 → ⊥) → (k ≡ 5 → ⊥) → (k ≡ 6 → ⊥) → (k ≡ 7 → ⊥) → reader_at k s ≡ mapped Entities (listed (array entity_of) s)
unfolding reader_at
others-are zero s n0 n1 n2 n3 n4 n5 n6 n7 = absurd (n0 refl)
others-are (suc zero) s n0 n1 n2 n3 n4 n5 n6 n7 = absurd (n1 refl)
others-are (suc (suc zero)) s n0 n1 n2 n3 n4 n5 n6 n7 = absurd (n2 refl)
others-are (suc (suc (suc zero))) s n0 n1 n2 n3 n4 n5 n6 n7 = absurd (n3 refl)
others-are (suc (suc (suc (suc zero)))) s n0 n1 n2 n3 n4 n5 n6 n7 = absurd (n4 refl)
others-are (suc (suc (suc (suc (suc zero))))) s n0 n1 n2 n3 n4 n5 n6 n7 = absurd (n5 refl)
others-are (suc (suc (suc (suc (suc (suc zero)))))) s n0 n1 n2 n3 n4 n5 n6 n7 = absurd (n6 refl)
others-are (suc (suc (suc (suc (suc (suc (suc zero))))))) s n0 n1 n2 n3 n4 n5 n6 n7 = absurd (n7 refl)
others-are (suc (suc (suc (suc (suc (suc (suc (suc k)))))))) s n0 n1 n2 n3 n4 n5 n6 n7 = refl

module _ (line names : List ℕ) (used at field : ℕ) {r : Result ℕ Bad} where
  pub at-time : field ≡ 0 → Told line at r (due BadField numeral number (drop at line)) → Passed line names names used at r (reader_at field (drop at line))
  unfolding reader_at
  at-time e t = placed Time e refl (plainly t)

  pub at-namespace : field ≡ 1 → Told line at r (listed (array text) (drop at line)) → Passed line names names used at r (reader_at field (drop at line))
  unfolding reader_at
  at-namespace e t = placed Namespace e refl (plainly t)

  pub at-action : field ≡ 2 → Told line at r (text (drop at line)) → Passed line names names used at r (reader_at field (drop at line))
  unfolding reader_at
  at-action e t = placed Action e refl (plainly t)

  pub at-kind : field ≡ 3 → Told line at r (text (drop at line)) → Passed line names names used at r (reader_at field (drop at line))
  unfolding reader_at
  at-kind e t = placed Kind e refl (plainly t)

  module _ {last : List ℕ} where
    pub at-logged : field ≡ 4 → Passed line names last used at r (fields 31 (drop at line)) → Passed line names last used at r (reader_at field (drop at line))
    unfolding reader_at
    at-logged e p = placed Logged e refl p

    pub at-context : field ≡ 5 → Passed line names last used at r (fields 31 (drop at line)) → Passed line names last used at r (reader_at field (drop at line))
    unfolding reader_at
    at-context e p = placed Context e refl p

    pub at-principal : field ≡ 6 → Passed line names last used at r (value 32 (drop at line)) → Passed line names last used at r (reader_at field (drop at line))
    unfolding reader_at
    at-principal e p = placed Principal e refl p

    pub at-resource : field ≡ 7 → Passed line names last used at r (value 32 (drop at line)) → Passed line names last used at r (reader_at field (drop at line))
    unfolding reader_at
    at-resource e p = placed Resource e refl p

    pub at-entities : (field ≡ 0 → ⊥) → (field ≡ 1 → ⊥) → (field ≡ 2 → ⊥) → (field ≡ 3 → ⊥) → (field ≡ 4 → ⊥) → (field ≡ 5 → ⊥) → (field ≡ 6 → ⊥) → (field ≡ 7 → ⊥) → Passed line names last used at r (listed (array entity_of) (drop at line)) → Passed line names last used at r (reader_at field (drop at line))
    at-entities n0 n1 n2 n3 n4 n5 n6 n7 p = placed Entities refl (others-are field (drop at line) n0 n1 n2 n3 n4 n5 n6 n7) p
