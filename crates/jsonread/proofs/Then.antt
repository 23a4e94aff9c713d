-- One reading after another
use Rattle.std.specs.Prelude.{Result, Ok, Err}
use mathlib.Core.Path.{◌≡◌, refl, sym, ap}
use mathlib.Core.List.{List}
use Prim.Native.Nat.{ℕ}
use lib.ListN.{drop}
use Rattle.jsontext.specs.declared.Fault.{Fault}
use Rattle.jsontext.specs.declared.Bad.{Bad}
use Rattle.jsontext.specs.Reading.{Read, got, fault, then, blanks}
use Rattle.jsonread.specs.Told.{Told, Blanks}
use Rattle.jsonread.proofs.Places.{told_bad, told_of, fault-then, then_is}

pub then-then : {A B C : Type 0} (m : Read A) (f : A → List ℕ → Read B) (g : B → List ℕ → Read C) → then (then m f) g ≡ then m (λ a rest. then (f a rest) g)
unfolding then
then-then (got a rest) f g = refl
then-then (fault w p q) f g = refl

pub then_same : {A B : Type 0} (m : Read A) {f g : A → List ℕ → Read B} → ((a : A) (rest : List ℕ) → f a rest ≡ g a rest) → then m f ≡ then m g
unfolding then
then_same (got a rest) e = e a rest
then_same (fault w p q) e = refl

pub then-got : {A : Type 0} (m : Read A) → then m (λ a rest. got a rest) ≡ m
unfolding then
then-got (got a rest) = refl
then-got (fault w p q) = refl

pub then-fault : {A B : Type 0} {m : Read A} {w : Fault} {p q : ℕ} (f : A → List ℕ → Read B) → m ≡ fault w p q → then m f ≡ fault w p q
unfolding then
then-fault f e = rw e

module _ {A B : Type 0} {line : List ℕ} {i : ℕ} {x : Result ℕ Bad} {m : Read A} (f : A → List ℕ → Read B) (t : Told line i x m) where
  pub then_bad : {at : ℕ} {b : Bad} → x ≡ Err b → Told line at (Err b) (then m f)
  then_bad e = told_bad (fault-then f (t.faulty _ e))

  pub then-on : {e : ℕ} {r : Result ℕ Bad} (q : x ≡ Ok e) → Told line e r (f (t.stands e q).what (drop e line)) → Told line i r (then m f)
  then-on q u = told_of (t.stands _ q).from (then_is f (t.stands _ q).is) u

pub after-blanks : {A : Type 0} {line : List ℕ} {at i : ℕ} {r : Result ℕ Bad} (f : List ℕ → Read A) → Blanks line at i → Told line i r (f (drop i line)) → Told line at r (f (blanks (drop at line)))
after-blanks f b t = told_of b.from (ap f (sym b.is)) t
