-- Something of every entry of a list, and entries by their place
use Rattle.std.specs.Prelude.{◌≡◌, refl, List, [], ◌∷◌, map, ℕ, zero, suc, ◌+◌, ◌*◌, ◌<◌, ◌≤◌, length, get_or, drop}
use Rattle.std.proofs.Common.{arith, mul-zero, mul-suc, add-one, drop-cons}
use Rattle.meaning.specs.Case.{places}

module _ {A : Type 0} where
  abbrev pub Every : (A → Type 0) → List A → Type 0
  Every P [] = Unit {0}
  Every P (x ∷ xs) = P x × Every P xs

  pub every_map : {P Q : A → Type 0} (xs : List A) → ((x : A) → P x → Q x) → Every P xs → Every Q xs
  every_map [] f e = tt
  every_map (x ∷ xs) f e = (f x e.0, every_map xs f e.1)

pub every_of : {A B : Type 0} (P : B → Type 0) (f : A → B) (xs : List A) → Every (λ x. P (f x)) xs → Every P (map f xs)
every_of P f [] e = tt
every_of P f (x ∷ xs) e = (e.0, every_of P f xs e.1)

-- what holds of each item of a run holds of every entry of its list
pub every-place : (P : ℕ → Type 0) (first width count : ℕ) → ((i : ℕ) → i < count → P (first + width * i)) → Every P (places first width count)
unfolding places
every-place P first width zero f = tt
every-place P first width (suc count) f =
    let z : first + width * 0 ≡ first = here first width in
    (rw z at (f 0 (omega arith)), every-place P (first + width) width count (λ i h. rw (next first width i) at (f (suc i) (omega arith))))
  where
    here : (first width : ℕ) → first + width * 0 ≡ first
    here first width = omega (arith, mul-zero width)

    next : (first width i : ℕ) → first + width * suc i ≡ first + width + width * i
    next first width i = omega (arith, mul-suc width i)

-- what is left at a place before the end, and at the end
pub open_at : (s : List ℕ) (i : ℕ) → i < length s → drop i s ≡ get_or s i 0 ∷ drop (i + 1) s
open_at s i h = rw (add-one i) (drop-cons s i 0 h)

pub shut_at : (s : List ℕ) (i : ℕ) → length s ≤ i → drop i s ≡ []
shut_at [] zero h = refl
shut_at [] (suc i) h = refl
shut_at (x ∷ s) zero h = absurd (omega arith)
shut_at (x ∷ s) (suc i) h = shut_at s i (omega arith)
