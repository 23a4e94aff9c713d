-- The record of a word or a number
use mathlib.Core.Path.{◌≡◌, refl, sym, ap, ap₂, ◌∙◌}
use mathlib.Core.Bool.{Bool, true, false}
use mathlib.Core.List.{List, [], ◌∷◌}
use Prim.Native.Nat.{ℕ, ◌+◌, ◌%◌, ◌/◌, ◌<◌}
use native.Mathlib.Omega.{arith}
use lib.ListN.{length, drop, get_or}
use mir.Val.{of_z}
use mir.Syntax.{w64}
use borrow.Author.Tests.{eq-eqb, ne_eqb}
use Rattle.meaning.specs.Tests.{choose}
use Rattle.laws.specs.Tests.{yes, no as otherwise}
use Rattle.jsontext.specs.declared.Fault.TheVariants.{NotJson}
use Rattle.jsontext.specs.Reading.{got, no, mapped}
use Rattle.jsontext.specs.Numbers.{number}
use Rattle.jsontext.specs.Values.{J, Null, Truth, Int, numeral}
use Rattle.jsontrace.specs.Order.{ordered}
use Rattle.jsontrace.specs.Trace.{value as value·Trace, low, high, value_adds}
use Rattle.jsonread.proofs.Places.{byte_at}
use Rattle.jsonread.proofs.Spelling.{never, Came, came}
use Rattle.jsonparts.specs.Flat.{scalar}
use Rattle.jsonruns.specs.Good.{Good}
use Rattle.jsoncount.proofs.Flat.{spelt-says, flat-below}
use Rattle.jsonadds.specs.Place.{IntegerTold, FlatDue, FlatTold}

module _ {line : List ℕ} {at : ℕ} (d : FlatDue line at) where
  abbrev g : Good line at (scalar (drop at line))
  g = d.good

  pub flat-at : at < length line
  flat-at = flat-below g

  here : scalar (drop at line) ≡ scalar (get_or line at 0 ∷ drop (at + 1) line)
  here = ap scalar (byte_at line at (flat-below g))

  pub null_told : get_or line at 0 ≡ 110 → FlatTold line at (record { kind = 0; x = 0; y = 0 })
  unfolding scalar ordered value_adds
  null_told q = record {
    is =
        λ j rest k e.
        let z : j ≡ Null = spelt-says (110 ∷ 117 ∷ 108 ∷ 108 ∷ []) Null (get_or line at 0 ∷ drop (at + 1) line) (sym (here ∙ otherwise _ (ne_eqb (get_or line at 0) 34 (λ w. omega (arith, q, w))) (otherwise _ (ne_eqb (get_or line at 0) 116 (λ w. omega (arith, q, w))) (otherwise _ (ne_eqb (get_or line at 0) 102 (λ w. omega (arith, q, w))) (yes _ (eq-eqb (get_or line at 0) 110 q))))) ∙ e) in
        rw z;
  }

  pub true-told : get_or line at 0 ≡ 116 → FlatTold line at (record { kind = 1; x = 1; y = 0 })
  unfolding scalar ordered value_adds choose
  true-told q = record {
    is =
        λ j rest k e.
        let z : j ≡ Truth true = spelt-says (116 ∷ 114 ∷ 117 ∷ 101 ∷ []) (Truth true) (get_or line at 0 ∷ drop (at + 1) line) (sym (here ∙ otherwise _ (ne_eqb (get_or line at 0) 34 (λ w. omega (arith, q, w))) (yes _ (eq-eqb (get_or line at 0) 116 q))) ∙ e) in
        rw z;
  }

  pub false-told : get_or line at 0 ≡ 102 → FlatTold line at (record { kind = 1; x = 0; y = 0 })
  unfolding scalar ordered value_adds choose
  false-told q = record {
    is =
        λ j rest k e.
        let z : j ≡ Truth false = spelt-says (102 ∷ 97 ∷ 108 ∷ 115 ∷ 101 ∷ []) (Truth false) (get_or line at 0 ∷ drop (at + 1) line) (sym (here ∙ otherwise _ (ne_eqb (get_or line at 0) 34 (λ w. omega (arith, q, w))) (otherwise _ (ne_eqb (get_or line at 0) 116 (λ w. omega (arith, q, w))) (yes _ (eq-eqb (get_or line at 0) 102 q)))) ∙ e) in
        rw z;
  }

  module _ (a : get_or line at 0 ≡ 110 → ⊥) (b : get_or line at 0 ≡ 116 → ⊥) (c : get_or line at 0 ≡ 102 → ⊥) where
    numbers-left : {j : J} {rest : List ℕ} → scalar (drop at line) ≡ got j rest → choose (numeral (get_or line at 0)) (mapped Int (number (get_or line at 0 ∷ drop (at + 1) line))) (no NotJson (get_or line at 0 ∷ drop (at + 1) line)) ≡ got j rest
    unfolding scalar
    numbers-left e = sym (here ∙ otherwise _ (ne_eqb _ 34 d.other) (otherwise _ (ne_eqb _ 116 b) (otherwise _ (ne_eqb _ 102 c) (otherwise _ (ne_eqb _ 110 a) refl)))) ∙ e

    number-came : {j : J} {rest : List ℕ} → scalar (drop at line) ≡ got j rest → Came Int (number (drop at line)) j rest
    unfolding choose
    number-came {j} {rest} e =
        rw (byte_at line at (flat-below g)) (go (numeral (get_or line at 0)) (numbers-left e))
      where
        go : (x : Bool) → choose x (mapped Int (number (get_or line at 0 ∷ drop (at + 1) line))) (no NotJson (get_or line at 0 ∷ drop (at + 1) line)) ≡ got j rest → Came Int (number (get_or line at 0 ∷ drop (at + 1) line)) j rest
        go true f = came Int (number (get_or line at 0 ∷ drop (at + 1) line)) f
        go false f = absurd (never f)

    pub int-good : Good line at (number (drop at line))
    int-good = let n = number-came g.is in record { what = n.what; rest = g.rest; within = g.within; is = n.is }

    pub int-told : {z x y : ℕ} → IntegerTold line at z → x ≡ z % 4294967296 → y ≡ z / 4294967296 → FlatTold line at (record { kind = 2; x = x; y = y })
    unfolding ordered value_adds low high
    int-told {z} {x} {y} i p q = record {
      is =
          λ j rest k e.
          let n = number-came e in
          let w : z ≡ of_z w64 n.what = i.is n.what rest n.is in
          let l : of_z w64 n.what % 4294967296 ≡ x = ap (λ (v : ℕ). v % 4294967296) (sym w) ∙ sym p in
          let h : of_z w64 n.what / 4294967296 ≡ y = ap (λ (v : ℕ). v / 4294967296) (sym w) ∙ sym q in
          rw n.makes (ap₂ (λ (u v : ℕ). value·Trace 2 u v) l h);
    }
