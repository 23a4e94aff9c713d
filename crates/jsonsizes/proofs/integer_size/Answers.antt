use Rattle.std.proofs.Common.{◌≡◌, ◌∙◌, ap, ℕ, length, arith, to_z, pos, ◌<ℤ◌, ◌≤ℤ◌, unsigned_abs}
use Rattle.std.specs.Int.{w64}
use Rattle.std.proofs.lemmas.Int.{ints, to_z-of_z}
use Rattle.jsontrace.specs.Text.{natural}
use Rattle.jsonsizes.specs.Laws.Leaves.{positive-size, negative-size}
use Rattle.jsonsizes.proofs.integer_size.Goals as goal

pub returns-then-n-lt0 : goal.returns-then-n-lt0
returns-then-n-lt0 c =
    let low : to_z w64 c.args.bits <ℤ pos 0 = grind (arith, ints, to_z-of_z) in
    let size : c.unsigned_abs.result ≡ unsigned_abs (to_z w64 c.args.bits) = grind (arith, to_z-of_z) in
    negative-size _ _ low (c.natural_size-digits.ensures.0 ∙ ap (λ (n : ℕ). length (natural n)) size)

pub returns-else-n-lt0 : goal.returns-else-n-lt0
returns-else-n-lt0 c =
    let high : pos 0 ≤ℤ to_z w64 c.args.bits = grind (arith, ints, to_z-of_z) in
    let size : c.unsigned_abs.result ≡ unsigned_abs (to_z w64 c.args.bits) = grind (arith, to_z-of_z) in
    positive-size _ _ high (c.natural_size-digits.ensures.0 ∙ ap (λ (n : ℕ). length (natural n)) size)
