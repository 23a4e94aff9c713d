-- What a caller may conclude: one outcome for each input; what an answer gives; a refusal leaves the output; 14 exactly when nothing else is against the case and it is longer than the output
use Rattle.std.specs.Prelude.{◌≡◌, Bool, true, ℕ, ◌<◌, leb, length, Result, Ok, Err}
use Rattle.std.proofs.Math.Path.{refl, ap}
use Rattle.std.proofs.Common.{sym, ◌∙◌, arith}
use Rattle.std.proofs.Math.Bool.{false}
use mathlib.Core.List.{List, [], ◌∷◌}
use Rattle.std.proofs.Math.Option.{Option, none, some}
use borrow.Author.Tests.{lt-leb, leb-true, leb-false}
use Rattle.meaning.specs.declared.Refusal.{Refusal}
use Rattle.meaning.specs.declared.Refusal.TheVariants.{BadContents, TooLarge, BadStrings, BadValues, BadPoints, BadNodes, BadLimits, OutputTooShort}
use Rattle.meaning.specs.Tests.{choose, or_else, first_broken}
use Rattle.meaning.specs.Calls.{number_of}
use Rattle.laws.specs.Tests.{no}
use Rattle.encode.specs.Unsorted.{finished}
use Rattle.encode.specs.Write.{make_refusal, later_refusal, write_refusal, output_after, over}
use Rattle.casewrite.specs.Written.{written_as, Writes, case_refusal}
use Rattle.casewrite.specs.Laws.{four, some-none, later-some, later-none}

-- any two outcomes are equal
pub one_written : {s marks room left left' output given given' : List ℕ} {r r' : Result ℕ Refusal} → Writes s marks room left output given r → Writes s marks room left' output given' r' → (r ≡ r') × ((left ≡ left') × (given ≡ given'))
one_written w w' = (w.is ∙ sym w'.is, (w.holds ∙ sym w'.holds, w.gives ∙ sym w'.gives))

said-none : (size : ℕ) (o : Option Refusal) {n : ℕ} → Ok n ≡ written_as size o → (o ≡ none) × (n ≡ size)
unfolding written_as
said-none size none e = (refl, cc)
said-none size (some r) e = let z : ◌≡◌ {A = ℕ} 0 1 = cc in absurd (omega arith)

said-some : (size : ℕ) (o : Option Refusal) {r : Refusal} → Err r ≡ written_as size o → o ≡ some r
unfolding written_as
said-some size none e = let z : ◌≡◌ {A = ℕ} 0 1 = cc in absurd (omega arith)
said-some size (some k) e = cc

-- refusals with another number
differ : (r : Refusal) → some r ≡ some OutputTooShort → leb (number_of r) 13 ≡ true → ⊥
unfolding number_of
differ r e low = let z : number_of r ≡ number_of OutputTooShort = cc in omega (arith, leb-true (number_of r) 13 low)

-- those of making and those of the finished case are others
three-other : (a b d : Bool) → first_broken ((a, BadContents) ∷ (b, TooLarge) ∷ (d, BadLimits) ∷ []) ≡ some OutputTooShort → ⊥
unfolding choose number_of
three-other true true true e = some-none (sym e)
three-other true true false e = differ BadLimits e refl
three-other true false d e = differ TooLarge e refl
three-other false b d e = differ BadContents e refl

four-other : (a b d e : Bool) → four a b d e ≡ some OutputTooShort → ⊥
unfolding choose number_of
four-other true true true true h = some-none (sym h)
four-other true true true false h = differ BadNodes h refl
four-other true true false e h = differ BadPoints h refl
four-other true false d e h = differ BadValues h refl
four-other false b d e h = differ BadStrings h refl

make_other : (s marks room : List ℕ) → make_refusal s marks room ≡ some OutputTooShort → ⊥
unfolding make_refusal
make_other s marks room h = three-other _ _ _ h

case-other : (s marks : List ℕ) → case_refusal s marks (finished s marks) ≡ some OutputTooShort → ⊥
unfolding case_refusal
case-other s marks h = four-other _ _ _ _ h

module _ {s marks room left output given : List ℕ} where
  -- an answer says how long the finished case is, and the output begins with it; the rest of the output stays
  pub written_is : {n : ℕ} → Writes s marks room left output given (Ok n) → (n ≡ length (finished s marks)) × (given ≡ over (finished s marks) output)
  unfolding output_after
  written_is w =
      let said = said-none (length (finished s marks)) (write_refusal s marks room output) w.is in
      (said.1, w.gives ∙ ap (output_after s marks room output) said.0)

  -- a refusal leaves the output as it was
  pub refused-leaves : {r : Refusal} → Writes s marks room left output given (Err r) → given ≡ output
  unfolding output_after
  refused-leaves w = w.gives ∙ ap (output_after s marks room output) (said-some (length (finished s marks)) (write_refusal s marks room output) w.is)

  -- ---- 14: nothing of 1, 2 and 10, nothing of 3 to 6, and the finished case is longer than the output

  pub fourteen_when : {r : Result ℕ Refusal} → Writes s marks room left output given r → make_refusal s marks room ≡ none → case_refusal s marks (finished s marks) ≡ none → length output < length (finished s marks) → r ≡ Err OutputTooShort
  unfolding write_refusal or_else later_refusal written_as
  fourteen_when {r} w made passes long =
      let later : later_refusal s marks [] output ≡ some OutputTooShort = later-none s marks output passes ∙ no _ (lt-leb (length (finished s marks)) (length output) long) refl in
      let all : write_refusal s marks room output ≡ some OutputTooShort = ap (λ (o : Option Refusal). or_else o (later_refusal s marks room output)) made ∙ later in
      w.is ∙ ap (written_as (length (finished s marks))) all

  pub fourteen_only_when : Writes s marks room left output given (Err OutputTooShort) → (make_refusal s marks room ≡ none) × ((case_refusal s marks (finished s marks) ≡ none) × (length output < length (finished s marks)))
  unfolding write_refusal or_else later_refusal
  fourteen_only_when w = making (make_refusal s marks room) refl
    where
      told : write_refusal s marks room output ≡ some OutputTooShort
      told = said-some (length (finished s marks)) (write_refusal s marks room output) w.is

      short : (b : Bool) → leb (length (finished s marks)) (length output) ≡ b → choose b none (some OutputTooShort) ≡ some OutputTooShort → length output < length (finished s marks)
      short true h e = unfold choose in absurd (some-none (sym e))
      short false h e = leb-false (length (finished s marks)) (length output) h

      checking : (o : Option Refusal) → case_refusal s marks (finished s marks) ≡ o → later_refusal s marks [] output ≡ some OutputTooShort → (case_refusal s marks (finished s marks) ≡ none) × (length output < length (finished s marks))
      checking none h later = (h, short (leb (length (finished s marks)) (length output)) refl (sym (later-none s marks output h) ∙ later))
      checking (some k) h later = absurd (case-other s marks (h ∙ sym (later-some s marks output h) ∙ later))

      making : (o : Option Refusal) → make_refusal s marks room ≡ o → (make_refusal s marks room ≡ none) × ((case_refusal s marks (finished s marks) ≡ none) × (length output < length (finished s marks)))
      making none h = (h, checking (case_refusal s marks (finished s marks)) refl (sym (ap (λ (o : Option Refusal). or_else o (later_refusal s marks room output)) h) ∙ told))
      making (some k) h = absurd (make_other s marks room (h ∙ sym (ap (λ (o : Option Refusal). or_else o (later_refusal s marks room output)) h) ∙ told))
