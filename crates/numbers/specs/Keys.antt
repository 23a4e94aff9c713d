-- What a decimal is found by: its number, or its string where it has none
use Rattle.std.specs.Prelude.{◌≡◌, ℕ, ℤ, Option, Some, None}
use Rattle.std.proofs.Math.Path.{refl, ap}
use mathlib.Core.List.{List, [], ◌∷◌}
use Rattle.std.proofs.Math.Option.{Option as Maybe, none, some}
use mir.Val.{to_z, of_z}
use mir.Syntax.{w64}
use Rattle.meaning.specs.Case.{case_of, text}
use Rattle.meaning.specs.Equal.{decimal, decimal_key}
use Rattle.numbers.specs.Decimals.{decimal_of}

module _ (s : List ℕ) (n : ℕ) (x : Option ℕ) (text-is : List ℕ) (et : text-is ≡ text s n) (ex : decimal_of x ≡ decimal text-is) where
  pub number-key : (z : ℤ) → decimal_of x ≡ some z → decimal_key (case_of s) n ≡ 0 ∷ of_z w64 z ∷ []
  unfolding decimal_key case_of
  number-key z e = let d : decimal (text s n) ≡ some z = rw (← et, ← ex, e) refl in ap (λ (d : Maybe ℤ). elim d as (λ d. List ℕ) [ none ↦ 1 ∷ n ∷ [] | some z ↦ 0 ∷ of_z w64 z ∷ [] ]) d

  pub text-key : decimal_of x ≡ none → decimal_key (case_of s) n ≡ 1 ∷ n ∷ []
  unfolding decimal_key case_of
  text-key e = let d : decimal (text s n) ≡ none = rw (← et, ← ex, e) refl in ap (λ (d : Maybe ℤ). elim d as (λ d. List ℕ) [ none ↦ 1 ∷ n ∷ [] | some z ↦ 0 ∷ of_z w64 z ∷ [] ]) d

  pub key-some : (p : ℕ) → x ≡ Some p → decimal_key (case_of s) n ≡ 0 ∷ of_z w64 (to_z w64 p) ∷ []
  unfolding decimal_of
  key-some p e = number-key (to_z w64 p) (rw e refl)

  pub key-none : x ≡ None → decimal_key (case_of s) n ≡ 1 ∷ n ∷ []
  unfolding decimal_of
  key-none e = text-key (rw e refl)
