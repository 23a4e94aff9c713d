-- The nearest number that 64 bits hold, as std says it
use Rattle.std.proofs.Common.{◌≡◌, refl, ap, Bool, true, false, min, ltb, ℤ, pos, negsuc, arith}
use Rattle.std.specs.Int.{saturate_to_bits}
use borrow.Author.Tests.{ltb-true, ltb-false}
use Rattle.meaning.specs.Number.{clamp, lowest, highest}

pub clamp_is : (z : ℤ) → clamp z ≡ saturate_to_bits 63 z
unfolding clamp lowest highest
clamp_is (pos n) = go (ltb 9223372036854775807 n) refl
  where
    go : (b : Bool) → ltb 9223372036854775807 n ≡ b → ◌≡◌ {A = ℤ} (elim b as (λ b. ℤ) [ true ↦ pos 9223372036854775807 | false ↦ pos n ]) (pos (min n 9223372036854775807))
    go true e = let h = ltb-true 9223372036854775807 n e in ap pos (omega arith)
    go false e = let h = ltb-false 9223372036854775807 n e in ap pos (omega arith)
clamp_is (negsuc n) = go (ltb 9223372036854775807 n) refl
  where
    go : (b : Bool) → ltb 9223372036854775807 n ≡ b → ◌≡◌ {A = ℤ} (elim b as (λ b. ℤ) [ true ↦ negsuc 9223372036854775807 | false ↦ negsuc n ]) (negsuc (min n 9223372036854775807))
    go true e = let h = ltb-true 9223372036854775807 n e in ap negsuc (omega arith)
    go false e = let h = ltb-false 9223372036854775807 n e in ap negsuc (omega arith)
