-- All words of a block are below a bound just if the greatest is
use Rattle.std.specs.Prelude.{◌≡◌, refl, Bool, ℕ, zero, suc, max, ltb}
use Rattle.std.proofs.Common.{sym, ◌∙◌, ap, arith}
use Rattle.meaning.specs.Tests.{◌and◌, all_below, greatest}
use Rattle.valuecheck.specs.Laws.{ltb-max}

pub top-is : (f : ℕ → ℕ) (bound n : ℕ) → all_below (suc n) (λ i. ltb (f i) bound) ≡ ltb (greatest (suc n) f) bound
unfolding all_below greatest
top-is f bound zero = let q : max 0 (f 0) ≡ f 0 = omega arith in rw q (unfold ◌and◌ in refl)
top-is f bound (suc n) = ap (λ (b : Bool). b and ltb (f (suc n)) bound) (top-is f bound n) ∙ sym (ltb-max (greatest (suc n) f) (f (suc n)) bound)
