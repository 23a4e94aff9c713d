-- A number that was read, as its 64 bits
use mathlib.Core.Path.{◌≡◌, refl, sym, ap, ◌∙◌}
use mathlib.Core.Bool.{Bool, true, false}
use mathlib.Core.List.{List, [], ◌∷◌}
use Prim.Native.Nat.{ℕ, zero, suc, ◌+◌, ◌%◌, ◌^◌, ◌<◌, ◌≤◌}
use native.Mathlib.Omega.{arith}
use lib.IntN.{ℤ}
use lib.ListN.{length, drop, get_or, length-drop}
use mir.Val.{of_z}
use mir.Syntax.{w64}
use borrow.Author.Tests.{eq-eqb, ne_eqb, leb-true, le-leb}
use Rattle.meaning.specs.Tests.{◌or◌, choose}
use Rattle.laws.specs.Tests.{yes, no as otherwise}
use Rattle.jsontext.specs.declared.Fault.TheVariants.{BadNumber}
use Rattle.jsontext.specs.Reading.{got, fault}
use Rattle.jsontext.specs.Numbers.{int, frac, exp, fits, signed, integer, parts, magnitude, number}
use Rattle.jsonread.specs.Told.{cap, WholeTold}
use Rattle.jsonread.specs.declared.integers.Digits.{Digits}
use Rattle.std.specs.Prelude.{Result, Ok, Err}
use Rattle.jsontext.specs.declared.Bad.{Bad}
use Rattle.jsonread.proofs.Places.{byte_at}
use Rattle.jsonread.proofs.Spelling.{never}
use Rattle.jsonruns.specs.Good.{Good}
use Rattle.jsonruns.proofs.Runs.{then_of, same-got}
use Rattle.jsonadds.specs.Place.{IntegerTold, MagnitudeTold}

-- digits that say m, and what they are with their sign
record Is (minus : Bool) (s : List ℕ) (z : ℤ) : Type 0 where
  m : ℕ
  left : List ℕ
  is : int s ≡ got m left
  z-is : z ≡ signed minus m
  small : m ≤ 9223372036854775808

fits-small : (minus : Bool) (n : ℕ) → fits minus n ≡ true → n ≤ 9223372036854775808
unfolding fits
fits-small true n e = leb-true n 9223372036854775808 e
fits-small false n e = omega (arith, leb-true n 9223372036854775807 e)

record Whole_of (minus : Bool) (n : ℕ) (z : ℤ) : Type 0 where
  z-is : z ≡ signed minus n
  small : n ≤ 9223372036854775808

integer_of : (left : ℕ) (minus other : Bool) (n : ℕ) (s : List ℕ) {z : ℤ} {rest : List ℕ} → integer left minus other n s ≡ got z rest → Whole_of minus n z
unfolding integer choose
integer_of left minus true n s e = absurd (never e)
integer_of left minus false n s {z} {rest} e =
    go (fits minus n) refl e
  where
    go : (x : Bool) → fits minus n ≡ x → choose x (got (signed minus n) s) (fault BadNumber left left) ≡ got z rest → Whole_of minus n z
    go true q f = record { z-is = cc; small = fits-small minus n q }
    go false q f = absurd (never f)

magnitude_of_lem : (left : ℕ) (minus : Bool) (s : List ℕ) {z : ℤ} {rest : List ℕ} → magnitude left minus s ≡ got z rest → Is minus s z
unfolding magnitude parts
magnitude_of_lem left minus s e =
    let n = then_of (int s) e in
    let f = then_of (frac n.left) n.next in
    let x = then_of (exp f.left) f.next in
    let w = integer_of left minus (f.what or x.what) n.what x.left x.next in
    record { m = n.what; left = n.left; is = n.is; z-is = w.z-is; small = w.small }

number-there : (s : List ℕ) {z : ℤ} {rest : List ℕ} → number s ≡ got z rest → 0 < length s
unfolding number
number-there [] e = absurd (never e)
number-there (c ∷ s) e = omega arith

capped : (m : ℕ) → m ≤ 9223372036854775808 → cap m ≡ m
unfolding cap
capped m h = yes _ (le-leb m 9223372036854775808 h)

plain-bits : (m : ℕ) → of_z w64 (signed false m) ≡ m
unfolding signed
plain-bits m = refl

minus-bits : (m r : ℕ) → m ≤ 9223372036854775808 → r < 18446744073709551616 → (r + m) % 18446744073709551616 ≡ 0 → r ≡ of_z w64 (signed true m)
unfolding signed
minus-bits zero r h l e = omega arith
minus-bits (suc m) r h l e = omega arith

module _ {line : List ℕ} {at : ℕ} (g : Good line at (number (drop at line))) where
  pub number-here : at < length line
  number-here = omega (arith, length-drop at line, number-there (drop at line) g.is)

  pub number-within : at + 1 ≤ length line
  number-within = omega (arith, number-here)

  number_is : number (drop at line) ≡ number (get_or line at 0 ∷ drop (at + 1) line)
  number_is = ap number (byte_at line at number-here)

  module _ (q : get_or line at 0 ≡ 45) where
    minus_of : {z : ℤ} {rest : List ℕ} → number (drop at line) ≡ got z rest → Is true (drop (at + 1) line) z
    unfolding number
    minus_of e = magnitude_of_lem (suc (length (drop (at + 1) line))) true (drop (at + 1) line) (sym (number_is ∙ yes _ (eq-eqb _ _ q)) ∙ e)

    pub minus-told : {m r : ℕ} → MagnitudeTold line (at + 1) m → (r + m) % 2 ^ 64 ≡ 0 → r < 18446744073709551616 → IntegerTold line at r
    minus-told {m} {r} t e l = record {
      is =
          λ z rest f.
          let i = minus_of f in
          let n : m ≡ i.m = t.is i.m i.left i.is ∙ capped i.m i.small in
          let k : (r + i.m) % 18446744073709551616 ≡ 0 = ap (λ (x : ℕ). (r + x) % 18446744073709551616) (sym n) ∙ e in
          minus-bits i.m r i.small l k ∙ ap (of_z w64) (sym i.z-is);
    }

  module _ (q : get_or line at 0 ≡ 45 → ⊥) where
    plain_of : {z : ℤ} {rest : List ℕ} → number (drop at line) ≡ got z rest → Is false (drop at line) z
    unfolding number
    plain_of e = rw (byte_at line at number-here) (magnitude_of_lem (suc (length (drop (at + 1) line))) false (get_or line at 0 ∷ drop (at + 1) line) (sym (number_is ∙ otherwise _ (ne_eqb _ _ q) refl) ∙ e))

    pub plain-told : {r : ℕ} → MagnitudeTold line at r → IntegerTold line at r
    plain-told {r} t = record {
      is =
          λ z rest f.
          let i = plain_of f in
          t.is i.m i.left i.is ∙ capped i.m i.small ∙ sym (plain-bits i.m) ∙ ap (of_z w64) (sym i.z-is);
    }

module _ {line : List ℕ} {at : ℕ} {w : Result Digits Bad} (t : WholeTold line at w) where
  pub magnitude-told : {d : Digits} → w ≡ Ok d → MagnitudeTold line at d.value
  magnitude-told {d} e = record { is = λ m rest f. let i = t.counted d e in i.value ∙ ap cap (same-got i.is f) }

  pub magnitude-none : {p : Bad} {r : ℕ} → w ≡ Err p → MagnitudeTold line at r
  magnitude-none {p} e = record { is = λ m rest f. absurd (never (sym (t.missing p e).faulty.is ∙ f)) }
