-- Values that hold no other
use Rattle.std.specs.Prelude.{Result, Err}
use mathlib.Core.Path.{◌≡◌, refl, sym, ◌∙◌}
use mathlib.Core.Bool.{Bool, true, false}
use mathlib.Core.List.{List, [], ◌∷◌}
use Prim.Native.Nat.{ℕ, ◌<◌, ◌≤◌}
use native.Mathlib.Omega.{arith}
use lib.Dec.{eqb}
use lib.ListN.{length, drop, get_or, drop_of_length-le}
use borrow.Author.Tests.{eq-eqb, ne_eqb}
use Rattle.meaning.specs.Tests.{choose}
use Rattle.laws.specs.Tests.{yes, no as otherwise}
use Rattle.jsontext.specs.declared.Fault.TheVariants.{NotJson}
use Rattle.jsontext.specs.declared.Bad.{Bad}
use Rattle.jsontext.specs.Reading.{no, mapped, wrong}
use Rattle.jsontext.specs.Numbers.{number}
use Rattle.jsontext.specs.Strings.{string}
use Rattle.jsontext.specs.Values.{J, Null, Truth, Int, Text, numeral, spelt}
use Rattle.jsonread.specs.Told.{Told}
use Rattle.jsonread.proofs.Places.{byte_at, wrong-here, told_of}
use Rattle.jsonread.proofs.Chars.{told_more}
use Rattle.jsonparts.specs.Flat.{scalar}

-- ---- values that hold no other

module _ (line : List ℕ) (at : ℕ) where
  pub scalar-end : at ≤ length line → length line ≤ at → Told line at (Err (wrong NotJson at)) (scalar (drop at line))
  unfolding scalar
  scalar-end h l = wrong-here h (rw (drop_of_length-le line l))

  module _ (h : at < length line) where
    abbrev byte : ℕ
    byte = get_or line at 0

    scalar-byte : scalar (drop at line) ≡ choose (eqb byte 34) (mapped Text (string (drop at line))) (choose (eqb byte 116) (spelt (116 ∷ 114 ∷ 117 ∷ 101 ∷ []) (Truth true) (drop at line)) (choose (eqb byte 102) (spelt (102 ∷ 97 ∷ 108 ∷ 115 ∷ 101 ∷ []) (Truth false) (drop at line)) (choose (eqb byte 110) (spelt (110 ∷ 117 ∷ 108 ∷ 108 ∷ []) Null (drop at line)) (choose (numeral byte) (mapped Int (number (drop at line))) (no NotJson (drop at line))))))
    unfolding scalar
    scalar-byte = rw (byte_at line at h)

    pub scalar-string : {r : Result ℕ Bad} → get_or line at 0 ≡ 34 → Told line at r (string (drop at line)) → Told line at r (scalar (drop at line))
    scalar-string e t = told_of (omega arith) (scalar-byte ∙ yes _ (eq-eqb _ _ e)) (told_more Text t)

    module _ (a : get_or line at 0 ≡ 34 → ⊥) where
      pub scalar-true : {r : Result ℕ Bad} → get_or line at 0 ≡ 116 → ((j : J) → Told line at r (spelt (116 ∷ 114 ∷ 117 ∷ 101 ∷ []) j (drop at line))) → Told line at r (scalar (drop at line))
      scalar-true e t = told_of (omega arith) (scalar-byte ∙ otherwise _ (ne_eqb _ _ a) (yes _ (eq-eqb _ _ e))) (t (Truth true))

      module _ (b : get_or line at 0 ≡ 116 → ⊥) where
        pub scalar-false : {r : Result ℕ Bad} → get_or line at 0 ≡ 102 → ((j : J) → Told line at r (spelt (102 ∷ 97 ∷ 108 ∷ 115 ∷ 101 ∷ []) j (drop at line))) → Told line at r (scalar (drop at line))
        scalar-false e t = told_of (omega arith) (scalar-byte ∙ otherwise _ (ne_eqb _ _ a) (otherwise _ (ne_eqb _ _ b) (yes _ (eq-eqb _ _ e)))) (t (Truth false))

        module _ (d : get_or line at 0 ≡ 102 → ⊥) where
          pub scalar_null : {r : Result ℕ Bad} → get_or line at 0 ≡ 110 → ((j : J) → Told line at r (spelt (110 ∷ 117 ∷ 108 ∷ 108 ∷ []) j (drop at line))) → Told line at r (scalar (drop at line))
          scalar_null e t = told_of (omega arith) (scalar-byte ∙ otherwise _ (ne_eqb _ _ a) (otherwise _ (ne_eqb _ _ b) (otherwise _ (ne_eqb _ _ d) (yes _ (eq-eqb _ _ e))))) (t Null)

          module _ (f : get_or line at 0 ≡ 110 → ⊥) {z : Bool} (k : z ≡ numeral (get_or line at 0)) where
            last : scalar (drop at line) ≡ choose (numeral byte) (mapped Int (number (drop at line))) (no NotJson (drop at line))
            last = scalar-byte ∙ otherwise _ (ne_eqb _ _ a) (otherwise _ (ne_eqb _ _ b) (otherwise _ (ne_eqb _ _ d) (otherwise _ (ne_eqb _ _ f) refl)))

            pub scalar-number : {r : Result ℕ Bad} → z ≡ true → Told line at r (number (drop at line)) → Told line at r (scalar (drop at line))
            scalar-number e t = told_of (omega arith) (last ∙ yes _ (sym k ∙ e)) (told_more Int t)

            pub scalar-none : z ≡ false → Told line at (Err (wrong NotJson at)) (scalar (drop at line))
            scalar-none e = wrong-here (omega arith) (last ∙ otherwise _ (sym k ∙ e) refl)
