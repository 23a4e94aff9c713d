-- A member of an event: its field, its value, where it ends
use mathlib.Core.Path.{◌≡◌, refl, sym, ap, ◌∙◌}
use mathlib.Core.List.{List, ◌∷◌}
use Prim.Native.Nat.{ℕ, ◌<◌}
use native.Mathlib.Omega.{arith}
use lib.ListN.{drop}
use borrow.Author.Tests.{eq-eqb, ne_eqb, ltb-true}
use Rattle.laws.specs.Tests.{yes, no as otherwise}
use Rattle.jsontext.specs.Reading.{got, blanks}
use Rattle.jsontext.specs.Strings.{string}
use Rattle.jsontext.specs.Events.{Field}
use Rattle.jsonruns.specs.Good.{Good, Ends, Signed, Past}
use Rattle.jsonlines.specs.Fields.{field_of, FieldTold, reader_at}
use Rattle.jsonlines.proofs.Entries.{is_field_lem, field-by, number_is}
use Rattle.jsonfields.specs.Places.{first_place, EntryOf, EntryGood, EntryTold}

module _ (old new : ℕ) where
  pub place-new : old ≡ 0 → new ≡ first_place old new
  unfolding first_place
  place-new e = sym (yes _ (eq-eqb old 0 e))

  pub place-old : (old ≡ 0 → ⊥) → old ≡ first_place old new
  unfolding first_place
  place-old n = sym (otherwise _ (ne_eqb old 0 n) refl)

module _ {line : List ℕ} {at : ℕ} (g : EntryGood line at) {e : ℕ} (p : Ends line at e (string (drop at line))) where
  colon : {m : List ℕ × Field} {t : List ℕ} (k : EntryOf (drop at line) m t) → blanks (drop e line) ≡ 58 ∷ k.value
  colon {m} k = ap blanks (sym (p.is m.0 k.after k.name)) ∙ k.colon

  pub entry-colon : Signed line e
  entry-colon = record { within = p.within; sign = 58; rest = g.is.value; is = colon g.is }

  module _ {field w : ℕ} (f : FieldTold line at field) (v : Past line e w) where
    small : {m : List ℕ × Field} {t : List ℕ} → EntryOf (drop at line) m t → field < 9
    small {m} k = rw (f m.0 k.after k.name) (ltb-true (field_of m.0) 9 (sym (is_field_lem m.0) ∙ k.knows))

    reads : {m : List ℕ × Field} {t : List ℕ} → EntryOf (drop at line) m t → reader_at field (drop w line) ≡ got m.1 t
    reads {m} k =
        ap (reader_at field) (v.is 58 k.value (colon k))
        ∙ ap (λ (n : ℕ). reader_at n (blanks k.value)) (f m.0 k.after k.name)
        ∙ sym (field-by m.0 (blanks k.value) (ltb-true (field_of m.0) 9 (sym (is_field_lem m.0) ∙ k.knows)))
        ∙ k.is

    pub entry_value : Good line w (reader_at field (drop w line))
    entry_value = record { what = g.what.1; rest = g.after; within = v.within; is = reads g.is }

    pub entry-told : {x : ℕ} → Ends line w x (reader_at field (drop w line)) → EntryTold line at (record { field = field; value = w; end = x })
    entry-told o = record {
      below = small g.is;
      far = omega (arith, p.from, v.from);
      from = o.from;
      within = o.within;
      is = λ m t k. record { number = number_is field (drop w line) (small k) (reads k); reads = reads k; ends = o.is m.1 t (reads k) };
    }
