-- Laws of a Predicate's arguments: one by its own rule and its term, a block by its top
use Rattle.std.specs.Prelude.{◌≡◌, refl, Bool, true, false, List, ℕ, ◌+◌, ◌*◌, ◌<◌, ltb}
use Rattle.std.proofs.Common.{sym, ◌∙◌}
use Rattle.meaning.specs.Tests.{◌and◌, all_below}
use Rattle.meaning.specs.Case.{list}
use Rattle.meaning.specs.Check.{argument_rule}
use Rattle.laws.specs.Tests.{all_same}
use Rattle.valuecheck.specs.Laws.{bound-is}
use Rattle.nodecheck.specs.Terms.{argument_own, argument_top}

last-first : (a l w : Bool) → (a and (l and w)) ≡ ((a and w) and l)
unfolding ◌and◌
last-first false l w = refl
last-first true true true = refl
last-first true true false = refl
last-first true false true = refl
last-first true false false = refl

-- an argument's own rule, and that its term is lower
pub argument_is : (s : List ℕ) (n i : ℕ) → argument_rule s n i ≡ (argument_own s i and ltb (list s (i + 2)) n)
unfolding argument_rule argument_own
argument_is s n i = last-first _ _ _

-- a Predicate may have a whole block just if its number is above the block's top
pub top-is : (s : List ℕ) (n at : ℕ) → n < 4294967296 → ltb (argument_top s at) n ≡ all_below 128 (λ j. argument_rule s n (at + 3 * j))
unfolding argument_top
top-is s n at h =
    bound-is (λ j. argument_own s (at + 3 * j)) (λ j. list s (at + 3 * j + 2)) n 127 h
    ∙ all_same _ _ 128 (λ j hj. sym (argument_is s n (at + 3 * j)))
