-- The rule of a value, by its kind
use Rattle.std.proofs.Common.{rules, [], arith, inl, inr, ◌⊎◌, ltb, ltb-true, ltb-false, ◌≤◌}
use Rattle.std.proofs.lemmas.Bool.Decides.{nat_tests}
use Prim.Native.Nat.{suc, zero, ℕ}
use mathlib.Core.Bool.{Bool, true, false}
use mathlib.Core.List.{List, ◌∷◌}
use mathlib.Core.Path.{◌∙◌, ◌≡◌, ap, refl, sym}
use Rattle.meaning.specs.Case.{value_word}
use Rattle.meaning.specs.Check.{array_rule, bool_rule, entity_value_rule, int_rule, no_kind, null_rule, object_rule, text_rule, value_rule}
use Rattle.meaning.specs.Tests.{◌and◌, pick}
use Rattle.valuecheck.proofs.value_rule.Goals as goal

kinds : (s : List ℕ) → List (ℕ → Bool)
kinds s = null_rule s ∷ bool_rule s ∷ int_rule s ∷ text_rule s ∷ text_rule s ∷ entity_value_rule s ∷ array_rule s ∷ object_rule s ∷ []

of : (s : List ℕ) (v : ℕ) {q k : ℕ} {r : Bool} → q ≡ value_word s v 0 → q ≡ k → r ≡ pick (kinds s) k (no_kind s) v → r ≡ value_rule s v
unfolding kinds value_rule
of s v e f g = g ∙ ap (λ (n : ℕ). pick (kinds s) n (no_kind s) v) (sym f ∙ e)

text_of : (s : List ℕ) (v : ℕ) {q : ℕ} {r : Bool} → q ≡ value_word s v 0 → 3 ≤ q → q ≤ 4 → r ≡ text_rule s v → r ≡ value_rule s v
unfolding kinds pick
text_of s v {q} {r} e l h f = go (ltb q 4) refl
  where
    go : (t : Bool) → ltb q 4 ≡ t → r ≡ value_rule s v
    go true z = let three : q ≡ 3 = omega (arith, ltb-true q 4 z) in of s v e three f
    go false z = let four : q ≡ 4 = omega (arith, ltb-false q 4 z) in of s v e four f

none_of : (s : List ℕ) (v q : ℕ) → (q ≡ 0 → ⊥) → (q ≡ 1 → ⊥) → (q ≡ 2 → ⊥) → ((q ≡ 3) ⊎ (q ≡ 4) → ⊥) → (q ≡ 5 → ⊥) → (q ≡ 6 → ⊥) → (q ≡ 7 → ⊥) → false ≡ pick (kinds s) q (no_kind s) v
unfolding kinds pick
none_of s v zero a b c d f g h = absurd (a refl)
none_of s v (suc zero) a b c d f g h = absurd (b refl)
none_of s v (suc (suc zero)) a b c d f g h = absurd (c refl)
none_of s v (suc (suc (suc zero))) a b c d f g h = absurd (d (inl refl))
none_of s v (suc (suc (suc (suc zero)))) a b c d f g h = absurd (d (inr refl))
none_of s v (suc (suc (suc (suc (suc zero))))) a b c d f g h = absurd (f refl)
none_of s v (suc (suc (suc (suc (suc (suc zero)))))) a b c d f g h = absurd (g refl)
none_of s v (suc (suc (suc (suc (suc (suc (suc zero))))))) a b c d f g h = absurd (h refl)
none_of s v (suc (suc (suc (suc (suc (suc (suc (suc n)))))))) a b c d f g h = refl

other : (s : List ℕ) (v : ℕ) {q : ℕ} → q ≡ value_word s v 0 → (q ≡ 0 → ⊥) → (q ≡ 1 → ⊥) → (q ≡ 2 → ⊥) → ((q ≡ 3) ⊎ (q ≡ 4) → ⊥) → (q ≡ 5 → ⊥) → (q ≡ 6 → ⊥) → (q ≡ 7 → ⊥) → false ≡ value_rule s v
other s v {q} i a b c d f g h = of s v i refl (none_of s v q a b c d f g h)

pub returns-then-a-eq0 : goal.returns-then-a-eq0
unfolding kinds pick ◌and◌
returns-then-a-eq0 c = of _ _ c.value_word-kind.ensures c.in-0.is (grind (arith, nat_tests))

pub returns-else-a-eq0 : goal.returns-else-a-eq0
unfolding kinds pick ◌and◌
returns-else-a-eq0 c = of _ _ c.value_word-kind.ensures c.in-0.is (grind (arith, nat_tests))

pub returns-then-a-le1 : goal.returns-then-a-le1
unfolding kinds pick ◌and◌
returns-then-a-le1 c = of _ _ c.value_word-kind.ensures c.in-1.is (grind (arith, nat_tests))

pub returns-else-a-le1 : goal.returns-else-a-le1
unfolding kinds pick ◌and◌
returns-else-a-le1 c = of _ _ c.value_word-kind.ensures c.in-1.is (grind (arith, nat_tests))

pub returns-then-a-n-2 : goal.returns-then-a-n-2
unfolding kinds pick ◌and◌
returns-then-a-n-2 c = text_of _ _ c.value_word-kind.ensures (omega arith) (omega arith) (grind (arith, nat_tests))

pub returns-else-a-n-2 : goal.returns-else-a-n-2
unfolding kinds pick ◌and◌
returns-else-a-n-2 c = text_of _ _ c.value_word-kind.ensures (omega arith) (omega arith) (grind (arith, nat_tests))

pub returns-then-b-n : goal.returns-then-b-n
unfolding kinds pick ◌and◌
returns-then-b-n c = of _ _ c.value_word-kind.ensures c.in-5.is (grind (arith, nat_tests))

pub returns-else-b-n : goal.returns-else-b-n
unfolding kinds pick ◌and◌
returns-else-b-n c = of _ _ c.value_word-kind.ensures c.in-5.is (grind (arith, nat_tests))

pub returns-then-in_members : goal.returns-then-in_members
unfolding kinds pick ◌and◌
returns-then-in_members c = of _ _ c.value_word-kind.ensures c.in-6.is (grind (arith, nat_tests))

pub returns-else-in_members : goal.returns-else-in_members
unfolding kinds pick ◌and◌
returns-else-in_members c = of _ _ c.value_word-kind.ensures c.in-6.is (grind (arith, nat_tests))

pub returns-then-in_members-2 : goal.returns-then-in_members-2
unfolding kinds pick ◌and◌
returns-then-in_members-2 c = of _ _ c.value_word-kind.ensures c.in-7.is (grind (arith, nat_tests))

pub returns-else-in_members-2 : goal.returns-else-in_members-2
unfolding kinds pick ◌and◌
returns-else-in_members-2 c = of _ _ c.value_word-kind.ensures c.in-7.is (grind (arith, nat_tests))

pub returns-in-2 : goal.returns-in-2
unfolding kinds pick
returns-in-2 c = of _ _ c.value_word-kind.ensures c.in-2.is (grind (arith, nat_tests))

pub returns-in_default : goal.returns-in_default
returns-in_default c = search (other, rules)
