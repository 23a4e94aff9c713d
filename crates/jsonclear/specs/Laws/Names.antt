-- Two strings compared byte by byte, and a value's own test by its words
use Rattle.std.specs.Prelude.{◌≡◌, refl, Bool, true, false, List, [], ◌∷◌, ℕ, zero, suc, ◌+◌, ◌<◌, ◌≤◌, eqb, length, get_or, drop}
use Rattle.std.proofs.Math.Path.{sym, ap}
use Rattle.std.proofs.Common.{ap₂, ◌∙◌, arith, add-one, drop-cons, eq-eqb, ne_eqb}
use Rattle.std.proofs.Math.Bool.{not}
use Rattle.meaning.specs.Tests.{◌and◌, ◌or◌}
use Rattle.meaning.specs.Case.{text, member_word, value_word}
use Rattle.meaning.specs.Equal.{same_list}
use Rattle.laws.specs.Tests.{stop, skip, after}
use Rattle.laws.specs.Text.{same-list, list_same}
use Rattle.std.specs.Str.{bytes_eq}
use Rattle.std.proofs.lemmas.Bool.Decides.{same_from_decides}
use Rattle.std.proofs.lemmas.Slice.Eq.{bytes_eq-Decides}
use Rattle.jsontext.specs.Values.{__entity, __extn}
use Rattle.jsontrace.specs.Export.{form_name}
use Rattle.jsonput.specs.Values.{Read}
use Rattle.jsonclear.specs.Clear.{own_clear}

-- ---- two tests, the second where the first is met

pub met : {r x y : Bool} → x ≡ true → r ≡ y → r ≡ (x and y)
met e q = q ∙ sym (after e)

pub unmet : {r x : Bool} (y : Bool) → x ≡ false → r ≡ false → r ≡ (x and y)
unmet y e q = q ∙ sym (stop y e)

-- ---- two strings

pub bytes_same : (a b : List ℕ) → bytes_eq a b ≡ same_list a b
bytes_same a b = same_from_decides (bytes_eq a b) (same_list a b) (bytes_eq-Decides a b) (same-list a b, list_same a b)

same_as : (t u v : List ℕ) {r : Bool} → r ≡ bytes_eq t u → u ≡ v → r ≡ same_list t v
same_as t u v e q = e ∙ bytes_same t u ∙ ap (same_list t) q

pub form_first : (t u : List ℕ) {r : Bool} → r ≡ bytes_eq t u → u ≡ __entity → r ≡ true → r ≡ form_name t
unfolding form_name ◌or◌
form_first t u e q h = h ∙ sym (rw (sym (same_as t u __entity e q) ∙ h) refl)

pub form_second : (t u v : List ℕ) {r x : Bool} → x ≡ bytes_eq t u → u ≡ __entity → x ≡ false → r ≡ bytes_eq t v → v ≡ __extn → r ≡ form_name t
unfolding form_name ◌or◌
form_second t u v e q h f p = same_as t v __extn f p ∙ sym (rw (sym (same_as t u __entity e q) ∙ h) refl)

-- ---- a value's own test

module _ (s : List ℕ) (v : ℕ) where
  pub own-other : {k a b : ℕ} {t : Bool} → t ≡ true → Read s v k a b → (k ≡ 7 → ⊥) → t ≡ own_clear s v
  unfolding own_clear
  own-other e r n = e ∙ sym (ap not (stop _ (ne_eqb _ 7 (λ e. n (r.kind ∙ e)))))

  pub own-many : {k a b : ℕ} {t : Bool} → t ≡ not (eqb b 1) → Read s v k a b → (b ≡ 1 → ⊥) → t ≡ own_clear s v
  unfolding own_clear
  own-many e r n = e ∙ ap not (ne_eqb _ 1 n) ∙ sym (ap not (skip (eqb (value_word s v 0) 7) (stop _ (ne_eqb _ 1 (λ e. n (r.items ∙ e))))))

  pub own_name : {k a b : ℕ} (w m : ℕ) (t : List ℕ) (r : Bool) → Read s v k a b → k ≡ 7 → b ≡ 1 → r ≡ form_name t → t ≡ text s m → m ≡ member_word s w 0 → w ≡ a → not r ≡ own_clear s v
  unfolding own_clear
  own_name {k} {a} {b} w m t r q ek eb er et em ew =
      ap not (er ∙ ap form_name (et ∙ ap (text s) (em ∙ ap (λ (x : ℕ). member_word s x 0) (ew ∙ q.first))) ∙ sym (after (eq-eqb _ 7 (sym q.kind ∙ ek)) ∙ after (eq-eqb _ 1 (sym q.items ∙ eb))))
