use Rattle.std.proofs.Common.{rules}
use Prim.Native.Nat.{◌*◌, ◌+◌, ◌<◌, ◌≤◌, ℕ}
use mathlib.Core.Bool.{Bool, not, true}
use mathlib.Core.List.{List}
use mathlib.Core.Path.{◌∙◌, ◌≡◌, refl, sym}
use Rattle.meaning.specs.Case.{list}
use Rattle.laws.specs.Tests.{no, yes, Passing, passing-none, passing-more, passing-no, passing-all, Growing, growing_none, growing_more, growing_all}
use Rattle.nodecheck.specs.Terms.{argument_own, argument_top}
use Rattle.nodecheck.proofs.argument_top.Goals as goal

module _ (s : List ℕ) (at : ℕ) {i : ℕ} (p : Passing (λ j. argument_own s (at + 3 * j)) 128 i) where
  broken : {r : Bool} → i < 128 → not r ≡ true → r ≡ argument_own s (at + 3 * i) → 4294967295 ≡ argument_top s at
  unfolding argument_top
  broken h e f = sym (no _ (sym (passing-no p h e f refl)) refl)

  whole : {top : ℕ} → Growing (λ j. list s (at + 3 * j + 2)) 128 i top → 128 ≤ i → top ≡ argument_top s at
  unfolding argument_top
  whole g h = growing_all g h refl ∙ sym (yes _ (sym (passing-all p h refl)))

pub loop-i-init : goal.loop-i-init
loop-i-init c = (search (passing-none, rules), search (growing_none, rules))

pub returns-then-not-argument_own : goal.returns-then-not-argument_own
returns-then-not-argument_own c = search (broken, rules)

pub loop-i-preserved : goal.loop-i-preserved
loop-i-preserved c = (search (passing-more, rules), search (growing_more, rules))

pub returns : goal.returns
returns c = search (whole, rules)
