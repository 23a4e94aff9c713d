use Rattle.std.proofs.Common.{rules}
use Prim.Native.Nat.{◌*◌, ◌+◌, ◌<◌, ◌≤◌, ℕ}
use lib.ListN.{get_or}
use mathlib.Core.List.{List}
use mathlib.Core.Path.{◌∙◌, ◌≡◌, ap, refl}
use native.Mathlib.Omega.{arith}
use Rattle.meaning.specs.Case.{list}
use Rattle.laws.specs.Tests.{Growing, growing_none, growing_more, growing_all, greatest-same}
use Rattle.meaning.specs.Tests.{greatest}
use Rattle.nodecheck.specs.Terms.{Terms}
use Rattle.nodecheck.proofs.argument_height.Goals as goal

term-low : {s : List ℕ} {n f c first k t at : ℕ} (i : ℕ) → at ≡ t → t ≡ list s (first + 3 * i + 2) → Terms s n f c → i < k → first ≡ f → k ≡ c → n ≤ 1024 → at < 1024
term-low {s} {f = f} {first = first} i q e l h a b m = let z : list s (first + 3 * i + 2) ≡ list s (f + 3 * i + 2) = rw a refl in omega (arith, l.low i (omega arith))

height-read : {t at x : ℕ} (table : List ℕ) → at ≡ t → t ≡ x → get_or table at 0 ≡ get_or table x 0
height-read table q e = ap (λ (y : ℕ). get_or table y 0) (q ∙ e)

whole : {f g : ℕ → ℕ} {n i best c : ℕ} → Growing f n i best → n ≤ i → n ≡ c → ((x : ℕ) → f x ≡ g x) → best ≡ greatest c g
whole {f} {g} r h q same = growing_all r h q ∙ greatest-same f g _ (λ x hx. same x)

from_first : {first f : ℕ} (s table : List ℕ) (x : ℕ) → first ≡ f → get_or table (list s (first + 3 * x + 2)) 0 ≡ get_or table (list s (f + 3 * x + 2)) 0
from_first s table x e = rw e refl

pub loop-i-init : goal.loop-i-init
loop-i-init c = (search (growing_none, rules), search rules, search rules)

pub bounds-heights-term : goal.bounds-heights-term
bounds-heights-term c = search (term-low, rules)

pub loop-i-preserved : goal.loop-i-preserved
loop-i-preserved c = (search (growing_more, height-read, rules), search rules, search rules)

pub returns : goal.returns
returns c = search (whole, from_first, rules)
