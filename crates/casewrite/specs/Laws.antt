-- The later refusals by their parts: 3 to 6 of the finished case, then 14
use Rattle.std.specs.Prelude.{◌≡◌, refl, Bool, true, false, List, [], ◌∷◌, ℕ, leb, length}
use Rattle.std.proofs.Common.{sym, arith}
use Rattle.std.proofs.Math.Option.{Option, none, some}
use Rattle.meaning.specs.declared.Refusal.{Refusal}
use Rattle.meaning.specs.declared.Refusal.TheVariants.{BadStrings, BadValues, BadPoints, BadNodes, OutputTooShort}
use Rattle.meaning.specs.Tests.{choose, first_broken}
use Rattle.encode.specs.Unsorted.{finished}
use Rattle.encode.specs.Write.{later_refusal}
use Rattle.casewrite.specs.Written.{case_refusal}

-- refusals 3 to 6 by their rules
abbrev pub four : Bool → Bool → Bool → Bool → Option Refusal
four a b d e = first_broken ((a, BadStrings) ∷ (b, BadValues) ∷ (d, BadPoints) ∷ (e, BadNodes) ∷ [])

-- and 14
abbrev five : Bool → Bool → Bool → Bool → Bool → Option Refusal
five a b d e f = first_broken ((a, BadStrings) ∷ (b, BadValues) ∷ (d, BadPoints) ∷ (e, BadNodes) ∷ (f, OutputTooShort) ∷ [])

pub some-none : {r : Refusal} → some r ≡ none → ⊥
some-none e = let z : ◌≡◌ {A = ℕ} 0 1 = cc in omega arith

one_of_four : (a b d e f : Bool) {r : Refusal} → four a b d e ≡ some r → five a b d e f ≡ some r
unfolding choose
one_of_four true true true true f h = absurd (some-none (sym h))
one_of_four true true true false f h = h
one_of_four true true false e f h = h
one_of_four true false d e f h = h
one_of_four false b d e f h = h

none_of_four : (a b d e f : Bool) → four a b d e ≡ none → five a b d e f ≡ choose f none (some OutputTooShort)
unfolding choose
none_of_four true true true true f h = refl
none_of_four true true true false f h = absurd (some-none h)
none_of_four true true false e f h = absurd (some-none h)
none_of_four true false d e f h = absurd (some-none h)
none_of_four false b d e f h = absurd (some-none h)

module _ (s marks output : List ℕ) where
  pub later-some : {r : Refusal} → case_refusal s marks (finished s marks) ≡ some r → later_refusal s marks [] output ≡ some r
  unfolding case_refusal later_refusal
  later-some h = one_of_four _ _ _ _ _ h

  pub later-none : case_refusal s marks (finished s marks) ≡ none → later_refusal s marks [] output ≡ choose (leb (length (finished s marks)) (length output)) none (some OutputTooShort)
  unfolding case_refusal later_refusal
  later-none h = none_of_four _ _ _ _ _ h
