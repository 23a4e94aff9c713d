-- The most bytes of a file, and one more
use Rattle.std.specs.Prelude.{◌≡◌, refl, Bool, true, false, List, [], ◌∷◌, ◌++◌, ℕ, ◌+◌, leb, length, replicate}
use Rattle.std.proofs.Common.{◌∙◌, ap, arith}
use Rattle.std.proofs.lemmas.List.{length-replicate}
use Rattle.meaning.specs.Tests.{◌and◌}
use Rattle.meaning.specs.Check.{mosts}
use Rattle.meaning.specs.Written.{packed, placed}
use Rattle.rule_examples.specs.Asked.{all}

-- contents of nothing, and zeros after them
long : ℕ → List ℕ
long n = packed (1 ∷ 0 ∷ placed 64 (0 ∷ 0 ∷ 0 ∷ 0 ∷ 0 ∷ 0 ∷ 0 ∷ [])) ++ replicate n 0

and-true : (b : Bool) → (b and true) ≡ b
unfolding ◌and◌
and-true true = refl
and-true false = refl

long-has : (n : ℕ) → length (long n) ≡ 64 + n
unfolding all long
long-has n = omega (arith, length-replicate {A = ℕ} n 0)

long-is : (n : ℕ) → mosts (long n) ≡ leb (64 + n) 4194304
unfolding all long
long-is n = ap (λ (k : ℕ). leb k 4194304 and true) (long-has n) ∙ and-true (leb (64 + n) 4194304)

longest : mosts (long 4194240) ≡ true
longest = long-is 4194240

longer : mosts (long 4194241) ≡ false
longer = long-is 4194241
