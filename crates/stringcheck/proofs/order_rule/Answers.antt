-- A string comes after the one before it; the first after none
use Rattle.std.proofs.Common.{rules}
use Prim.Native.Nat.{◌-◌, suc, zero, ℕ}
use mathlib.Core.Bool.{Bool, true}
use mathlib.Core.List.{List}
use mathlib.Core.Path.{◌∙◌, ◌≡◌, refl}
use native.Mathlib.Omega.{arith}
use Rattle.meaning.specs.Case.{text}
use Rattle.meaning.specs.Check.{order_rule}
use Rattle.meaning.specs.Tests.{rises}
use Rattle.meaning.specs.Text.{before}
use Rattle.stringcheck.proofs.order_rule.Goals as goal

first_of : (s : List ℕ) {k : ℕ} → k ≡ 0 → true ≡ order_rule s k
unfolding order_rule rises
first_of s e = rw e

later : (s : List ℕ) {x y : List ℕ} {k : ℕ} {r : Bool} → r ≡ before x y → x ≡ text s (k - 1) → y ≡ text s k → (k ≡ 0 → ⊥) → r ≡ order_rule s k
unfolding order_rule rises
later s {k = zero} e f g h = absurd (h refl)
later s {k = suc k} e f g h = let q : suc k - 1 ≡ k = omega arith in e ∙ rw (f, g, q)

pub returns-then-k-eq0 : goal.returns-then-k-eq0
returns-then-k-eq0 c = search (first_of, rules)

pub returns-else-k-eq0 : goal.returns-else-k-eq0
returns-else-k-eq0 c = search (later, rules)
