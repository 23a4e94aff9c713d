-- The order that an op asks of two Ints, and signed numbers by sign and magnitude
use Rattle.std.specs.Prelude.{Bool, true, false, not, ℕ, eqb, ℤ, pos, neg_ℤ}
use Rattle.std.specs.Int.Signed.{lt_z, le_z}
use Rattle.std.proofs.Common.{of_z}
use Rattle.std.specs.Int.{w64}
use Rattle.meaning.specs.declared.CmpOp.{CmpOp}
use Rattle.meaning.specs.declared.CmpOp.TheVariants.{Le, Lt, Ge, Gt, Eq, NotEq}

unfoldable pub orders : CmpOp → ℤ → ℤ → Bool
orders Le a b = le_z a b
orders Lt a b = lt_z a b
orders Ge a b = le_z b a
orders Gt a b = lt_z b a
orders Eq a b = eqb (of_z w64 a) (of_z w64 b)
orders NotEq a b = not (eqb (of_z w64 a) (of_z w64 b))

unfoldable pub signed_by : Bool → ℕ → ℤ
signed_by true n = neg_ℤ (pos n)
signed_by false n = pos n
