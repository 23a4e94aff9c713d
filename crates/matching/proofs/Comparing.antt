-- Two sides: bound or not, Ints or not, compared and combined
use mathlib.Core.Path.{◌≡◌, refl, sym, ◌∙◌, ap}
use mathlib.Core.Bool.{Bool, true, false, not}
use Rattle.std.proofs.Common.{◌⊎◌, inl, inr}
use mathlib.Core.List.{[], ◌∷◌}
use mathlib.Core.Option.{Option, none, some}
use Prim.Native.Nat.{ℕ, zero, suc}
use native.Mathlib.Omega.{arith}
use lib.Dec.{eqb}
use lib.IntN.{ℤ}
use borrow.Author.Tests.{ne_eqb}
use types.Run.{OneOf, miss}
use denote.Enum.Declared.{tag_of}
use mir.Val.{to_z}
use mir.Syntax.{w64}
use Rattle.meaning.specs.contracts.CmpOp.{the_type}
use Rattle.meaning.specs.declared.ArithOp.{ArithOp}
use Rattle.meaning.specs.declared.CmpOp.{CmpOp}
use Rattle.meaning.specs.declared.CmpOp.TheVariants.{Le, Lt, Ge, Gt, Eq, NotEq}
use Rattle.meaning.specs.Tests.{pick, is_some}
use Rattle.meaning.specs.Number.{calculate}
use Rattle.meaning.specs.Case.{Case}
use Rattle.meaning.specs.Equal.{Bound, int, integer}
use Rattle.meaning.specs.Rows.{in_cells, same_cell}
use Rattle.meaning.specs.Meaning.{both, compared}
use Rattle.numbers.specs.Numbers.{orders}
use Rattle.matching.specs.Asking.{integer_in, combined}

-- ---- Ints

pub int_tag : (t u : ℕ) → eqb t 1 ≡ is_some (integer_in (in_cells t u))
unfolding in_cells pick is_some integer_in integer
int_tag zero u = refl
int_tag (suc zero) u = refl
int_tag (suc (suc zero)) u = refl
int_tag (suc (suc (suc zero))) u = refl
int_tag (suc (suc (suc (suc t)))) u = ne_eqb (suc (suc (suc (suc t)))) 1 (λ e. omega arith)

int_of : (t u : ℕ) {p : Bool} → p ≡ is_some (integer_in (in_cells t u)) → p ≡ true → integer_in (in_cells t u) ≡ some (to_z w64 u)
unfolding in_cells pick is_some integer_in integer
int_of zero u e h = cc
int_of (suc zero) u e h = refl
int_of (suc (suc zero)) u e h = cc
int_of (suc (suc (suc zero))) u e h = cc
int_of (suc (suc (suc (suc t)))) u e h = cc

pub combined_ints : (op : ArithOp) (t u t' u' v : ℕ) (p q : Bool) → p ≡ is_some (integer_in (in_cells t u)) → p ≡ true → q ≡ is_some (integer_in (in_cells t' u')) → q ≡ true → to_z w64 v ≡ calculate op (to_z w64 u) (to_z w64 u') → in_cells 1 v ≡ combined op (integer_in (in_cells t u)) (integer_in (in_cells t' u'))
unfolding combined
combined_ints op t u t' u' v p q e h f g is =
    rw (int_of t u e h, int_of t' u' f g) (unfold in_cells pick in ap (λ (z : ℤ). some (int z)) is)

combined-left : (op : ArithOp) (x y : Option ℤ) → is_some x ≡ false → in_cells 0 0 ≡ combined op x y
unfolding combined is_some in_cells pick
combined-left op none y h = refl
combined-left op (some x) y h = cc

combined-right : (op : ArithOp) (x y : Option ℤ) → is_some y ≡ false → in_cells 0 0 ≡ combined op x y
unfolding combined is_some in_cells pick
combined-right op none y h = refl
combined-right op (some x) none h = refl
combined-right op (some x) (some y) h = cc

pub combined-none : (op : ArithOp) (x y : Option ℤ) (p q : Bool) → p ≡ is_some x → q ≡ is_some y → ((p ≡ true) × (q ≡ false)) ⊎ (p ≡ false) → in_cells 0 0 ≡ combined op x y
combined-none op x y p q e f (inl h) = combined-right op x y (sym f ∙ h.1)
combined-none op x y p q e f (inr h) = combined-left op x y (sym e ∙ h)

-- ---- both sides there, or not

pub ordered-both : (op : CmpOp) (t u t' u' : ℕ) (p q r : Bool) → p ≡ is_some (integer_in (in_cells t u)) → p ≡ true → q ≡ is_some (integer_in (in_cells t' u')) → q ≡ true → r ≡ orders op (to_z w64 u) (to_z w64 u') → r ≡ both (orders op) (integer_in (in_cells t u)) (integer_in (in_cells t' u'))
unfolding both
ordered-both op t u t' u' p q r e h f g is = rw (int_of t u e h, int_of t' u' f g) is

module _ {A : Type 0} (test : A → A → Bool) (x y : Option A) (p : Bool) where
  pub not_left : p ≡ is_some x → p ≡ false → false ≡ both test x y
  not_left e h = go x e
    where
      go : (x : Option A) → p ≡ is_some x → false ≡ both test x y
      go none e = unfold both in refl
      go (some x) e = unfold is_some in cc

  pub not_right : p ≡ is_some y → p ≡ false → false ≡ both test x y
  not_right e h = go x y e
    where
      go : (x y : Option A) → p ≡ is_some y → false ≡ both test x y
      go none y e = unfold both in refl
      go (some x) none e = unfold both in refl
      go (some x) (some y) e = unfold is_some in cc

pub bound-yes : (o : Option Bound) (p : Bool) → p ≡ is_some o → p ≡ true → is_some o ≡ true
bound-yes o p e h = sym e ∙ h

-- ---- an op on two bindings

abbrev pub Ordering : CmpOp → Type 0
Ordering op = OneOf (0 ∷ 1 ∷ 2 ∷ 3 ∷ []) (tag_of the_type op)

module _ (c : Case) where
  pub compared_eq : (op : CmpOp) (a b : Option Bound) (r : Bool) → op ≡ Eq → is_some a ≡ true → is_some b ≡ true → r ≡ same_cell c a b → r ≡ both (compared c op) a b
  compared_eq op a b r is h k e = rw is (go a b h k e)
    where
      go : (a b : Option Bound) → is_some a ≡ true → is_some b ≡ true → r ≡ same_cell c a b → r ≡ both (compared c Eq) a b
      go none b h k e = unfold is_some in cc
      go (some a) none h k e = unfold is_some in cc
      go (some a) (some b) h k e = unfold both compared same_cell in e

  pub compared-not : (op : CmpOp) (a b : Option Bound) (r : Bool) → op ≡ NotEq → is_some a ≡ true → is_some b ≡ true → r ≡ same_cell c a b → not r ≡ both (compared c op) a b
  compared-not op a b r is h k e = rw is (go a b h k e)
    where
      go : (a b : Option Bound) → is_some a ≡ true → is_some b ≡ true → r ≡ same_cell c a b → not r ≡ both (compared c NotEq) a b
      go none b h k e = unfold is_some in cc
      go (some a) none h k e = unfold is_some in cc
      go (some a) (some b) h k e = unfold both compared same_cell in ap not e

  turned : (test : ℤ → ℤ → Bool) (x y : Option ℤ) → both (λ a b. test b a) x y ≡ both test y x
  unfolding both
  turned test none none = refl
  turned test none (some y) = refl
  turned test (some x) none = refl
  turned test (some x) (some y) = refl

  ordering : (op : CmpOp) (a b : Bound) → Ordering op → both (orders op) (integer a) (integer b) ≡ compared c op a b
  unfolding orders compared
  ordering Le a b h = refl
  ordering Lt a b h = refl
  ordering Ge a b h = turned _ (integer a) (integer b)
  ordering Gt a b h = turned _ (integer a) (integer b)
  ordering Eq a b h = absurd (miss (0 ∷ 1 ∷ 2 ∷ 3 ∷ []) 4 tt h)
  ordering NotEq a b h = absurd (miss (0 ∷ 1 ∷ 2 ∷ 3 ∷ []) 5 tt h)

  pub compared-ordering : (op : CmpOp) (a b : Option Bound) (r : Bool) → Ordering op → is_some a ≡ true → is_some b ≡ true → r ≡ both (orders op) (integer_in a) (integer_in b) → r ≡ both (compared c op) a b
  compared-ordering op a b r is h k e = go a b h k e
    where
      go : (a b : Option Bound) → is_some a ≡ true → is_some b ≡ true → r ≡ both (orders op) (integer_in a) (integer_in b) → r ≡ both (compared c op) a b
      go none b h k e = unfold is_some in cc
      go (some a) none h k e = unfold is_some in cc
      go (some a) (some b) h k e = unfold both integer_in in e ∙ ordering op a b is
