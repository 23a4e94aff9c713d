-- What a word stands for where it is none of the numbers that name a choice; values from their words
use mathlib.Core.Path.{◌≡◌, refl, ◌∙◌}
use mathlib.Core.List.{List}
use Prim.Native.Nat.{ℕ, zero, suc, ◌+◌, ◌*◌}
use Rattle.meaning.specs.declared.TimeUnit.TheVariants.{Seconds}
use Rattle.meaning.specs.declared.CmpOp.TheVariants.{Le}
use Rattle.meaning.specs.declared.ArithOp.TheVariants.{Add}
use Rattle.meaning.specs.declared.Root.TheVariants.{Principal}
use Rattle.meaning.specs.Tests.{pick, choose}
use Rattle.meaning.specs.declared.Node.{Node}
use Rattle.meaning.specs.declared.Node.TheVariants.{Formerly, Previous, Since, Comparison, Scope, Arithmetic, Broken}
use Rattle.meaning.specs.declared.CmpOp.{CmpOp}
use Rattle.meaning.specs.declared.ArithOp.{ArithOp}
use Rattle.meaning.specs.declared.Root.{Root}
use Rattle.meaning.specs.declared.Interval.{Interval}
use borrow.Author.Tests.{ne_eqb}
use Rattle.meaning.specs.Case.{node_from, under, interval, node_word, node_at, unit_of, cmp_of, arith_of, root_from, signed, value_from, value_word, value_at, part_at}
use Rattle.tables.specs.declared.Value.{Value}
use Rattle.tables.specs.declared.Value.TheVariants.{Null, Int}
use Rattle.tables.specs.Values.{meant, Means}

pub unit-rest : (u : ℕ) → (u ≡ 1 → ⊥) → (u ≡ 2 → ⊥) → (u ≡ 3 → ⊥) → Seconds ≡ unit_of u
unfolding unit_of pick
unit-rest zero a b c = refl
unit-rest (suc zero) a b c = absurd (a refl)
unit-rest (suc (suc zero)) a b c = absurd (b refl)
unit-rest (suc (suc (suc zero))) a b c = absurd (c refl)
unit-rest (suc (suc (suc (suc n)))) a b c = refl

pub cmp_rest : (o : ℕ) → (o ≡ 1 → ⊥) → (o ≡ 2 → ⊥) → (o ≡ 3 → ⊥) → (o ≡ 4 → ⊥) → (o ≡ 5 → ⊥) → Le ≡ cmp_of o
unfolding cmp_of pick
cmp_rest zero a b c d e = refl
cmp_rest (suc zero) a b c d e = absurd (a refl)
cmp_rest (suc (suc zero)) a b c d e = absurd (b refl)
cmp_rest (suc (suc (suc zero))) a b c d e = absurd (c refl)
cmp_rest (suc (suc (suc (suc zero)))) a b c d e = absurd (d refl)
cmp_rest (suc (suc (suc (suc (suc zero))))) a b c d e = absurd (e refl)
cmp_rest (suc (suc (suc (suc (suc (suc n)))))) a b c d e = refl

pub arith-rest : (o : ℕ) → (o ≡ 1 → ⊥) → (o ≡ 2 → ⊥) → Add ≡ arith_of o
unfolding arith_of pick
arith-rest zero a b = refl
arith-rest (suc zero) a b = absurd (a refl)
arith-rest (suc (suc zero)) a b = absurd (b refl)
arith-rest (suc (suc (suc n))) a b = refl

pub root_rest : (o : ℕ) → (o ≡ 1 → ⊥) → Principal ≡ root_from o
unfolding root_from pick
root_rest zero a = refl
root_rest (suc zero) a = absurd (a refl)
root_rest (suc (suc n)) a = refl

pub means-int : (k a b r : ℕ) → k ≡ 2 → r ≡ a + 4294967296 * b → Means k a b (Int r)
unfolding meant value_from pick signed
means-int k a b r e f = record { is = λ part. rw (e, f) refl }

pub means_null : (k a b : ℕ) → (k ≡ 1 → ⊥) → (k ≡ 2 → ⊥) → (k ≡ 3 → ⊥) → (k ≡ 4 → ⊥) → (k ≡ 5 → ⊥) → (k ≡ 6 → ⊥) → (k ≡ 7 → ⊥) → Means k a b Null
unfolding meant value_from pick
means_null zero x y a b c d e f g = record { is = λ part. refl }
means_null (suc zero) x y a b c d e f g = absurd (a refl)
means_null (suc (suc zero)) x y a b c d e f g = absurd (b refl)
means_null (suc (suc (suc zero))) x y a b c d e f g = absurd (c refl)
means_null (suc (suc (suc (suc zero)))) x y a b c d e f g = absurd (d refl)
means_null (suc (suc (suc (suc (suc zero))))) x y a b c d e f g = absurd (e refl)
means_null (suc (suc (suc (suc (suc (suc zero)))))) x y a b c d e f g = absurd (f refl)
means_null (suc (suc (suc (suc (suc (suc (suc zero))))))) x y a b c d e f g = absurd (g refl)
means_null (suc (suc (suc (suc (suc (suc (suc (suc n)))))))) x y a b c d e f g = record { is = λ part. refl }

pub value-read-at : (s : List ℕ) (v k a b : ℕ) (r : Value) → k ≡ value_word s v 0 → a ≡ value_word s v 1 → b ≡ value_word s v 2 → Means k a b r → meant (part_at s) r ≡ value_at s v
unfolding value_at
value-read-at s v k a b r ek ea eb h = h.is (part_at s) ∙ rw (ek, ea, eb) refl

pub node-read-at : (s : List ℕ) (n k a b c d e f : ℕ) (r : Node) → k ≡ node_word s n 0 → a ≡ node_word s n 1 → b ≡ node_word s n 2 → c ≡ node_word s n 3 → d ≡ node_word s n 4 → e ≡ node_word s n 5 → f ≡ node_word s n 6 → r ≡ node_from k a b c d e f → r ≡ node_at s n
unfolding node_at
node-read-at s n k a b c d e f r ek ea eb ec ed ee ef h = h ∙ rw (ek, ea, eb, ec, ed, ee, ef) refl

-- ---- nodes with a part that is read first: k is the kind

module _ (k a b c d e f : ℕ) where
  pub from-formerly : (t : Interval) → k ≡ 4 → t ≡ interval a b c → Formerly t (record { 0 = d }) ≡ node_from k a b c d e f
  unfolding node_from under choose
  from-formerly t ek et = rw (ek, et)

  pub from-previous : (t : Interval) → k ≡ 5 → t ≡ interval a b c → Previous t (record { 0 = d }) ≡ node_from k a b c d e f
  unfolding node_from under choose
  from-previous t ek et = rw (ek, et)

  pub from-since : (t : Interval) → k ≡ 6 → t ≡ interval c d e → Since (record { 0 = a }) (record { 0 = b }) t ≡ node_from k a b c d e f
  unfolding node_from under choose
  from-since t ek et = rw (ek, et)

  pub from_comparison : (o : CmpOp) → k ≡ 8 → o ≡ cmp_of a → Comparison o (record { 0 = b }) (record { 0 = c }) ≡ node_from k a b c d e f
  unfolding node_from under choose
  from_comparison o ek eo = rw (ek, eo)

  pub from_scope : (o : Root) → k ≡ 22 → o ≡ root_from a → Scope o (record { first = b; count = c }) ≡ node_from k a b c d e f
  unfolding node_from under choose
  from_scope o ek eo = rw (ek, eo)

  pub from-arithmetic : (o : ArithOp) → k ≡ 26 → o ≡ arith_of a → Arithmetic o (record { 0 = b }) (record { 0 = c }) ≡ node_from k a b c d e f
  unfolding node_from under choose
  from-arithmetic o ek eo = rw (ek, eo)

  pub from-rest : (k ≡ 1 → ⊥) → (k ≡ 2 → ⊥) → (k ≡ 3 → ⊥) → (k ≡ 4 → ⊥) → (k ≡ 5 → ⊥) → (k ≡ 6 → ⊥) → (k ≡ 7 → ⊥) → (k ≡ 8 → ⊥) → (k ≡ 9 → ⊥) → (k ≡ 10 → ⊥) → (k ≡ 20 → ⊥) → (k ≡ 21 → ⊥) → (k ≡ 22 → ⊥) → (k ≡ 23 → ⊥) → (k ≡ 24 → ⊥) → (k ≡ 25 → ⊥) → (k ≡ 26 → ⊥) → (k ≡ 30 → ⊥) → (k ≡ 31 → ⊥) → Broken ≡ node_from k a b c d e f
  unfolding node_from under choose
  from-rest z1 z2 z3 z4 z5 z6 z7 z8 z9 z10 z20 z21 z22 z23 z24 z25 z26 z30 z31 = simp (ne_eqb k 1 z1, ne_eqb k 2 z2, ne_eqb k 3 z3, ne_eqb k 4 z4, ne_eqb k 5 z5, ne_eqb k 6 z6, ne_eqb k 7 z7, ne_eqb k 8 z8, ne_eqb k 9 z9, ne_eqb k 10 z10, ne_eqb k 20 z20, ne_eqb k 21 z21, ne_eqb k 22 z22, ne_eqb k 23 z23, ne_eqb k 24 z24, ne_eqb k 25 z25, ne_eqb k 26 z26, ne_eqb k 30 z30, ne_eqb k 31 z31)
