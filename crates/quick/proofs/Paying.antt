-- Walks that begin with steps
use mathlib.Core.Path.{◌≡◌, refl, ap, ◌∙◌}
use Prim.Native.Nat.{ℕ, zero, suc, ◌+◌}
use native.Mathlib.Omega.{arith}
use Rattle.meaning.specs.Walk.{W, give, visit, ◌>>=◌}
use Rattle.laws.specs.Walk.{give_bind}
use Rattle.quick.specs.Tells.{paying}

module _ {A B : Type 0} where
  visit_bind : (w : W A) (f : A → W B) → visit w >>= f ≡ visit (w >>= f)
  unfolding visit ◌>>=◌
  visit_bind w f = refl

  pub paying_bind : (k : ℕ) (w : W A) (f : A → W B) → paying k w >>= f ≡ paying k (w >>= f)
  unfolding paying
  paying_bind zero w f = refl
  paying_bind (suc k) w f = visit_bind (paying k w) f ∙ ap visit (paying_bind k w f)

  pub paying-give : (k : ℕ) (a : A) (f : A → W B) → paying k (give a) >>= f ≡ paying k (f a)
  paying-give k a f = paying_bind k (give a) f ∙ ap (paying k) (give_bind a f)

pub paying-more : {A : Type 0} (j k : ℕ) (w : W A) → paying j (paying k w) ≡ paying (j + k) w
unfolding paying
paying-more zero k w = let z : 0 + k ≡ k = omega arith in rw z refl
paying-more (suc j) k w = let z : suc j + k ≡ suc (j + k) = omega arith in rw z (ap visit (paying-more j k w))
