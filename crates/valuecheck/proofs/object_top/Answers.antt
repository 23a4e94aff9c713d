use Rattle.std.proofs.Common.{rules}
use Prim.Native.Nat.{ℕ, ◌+◌, ◌<◌, ◌≤◌}
use mathlib.Core.Path.{◌≡◌, refl, sym, ◌∙◌}
use mathlib.Core.Bool.{Bool, not, true}
use mathlib.Core.List.{List}
use Rattle.meaning.specs.Case.{member_word}
use Rattle.laws.specs.Tests.{no, yes, Passing, passing-none, passing-more, passing-no, passing-all, Growing, growing_none, growing_more, growing_all}
use Rattle.valuecheck.specs.Blocks.{object_name, object_top}
use Rattle.valuecheck.proofs.object_top.Goals as goal

module _ (s : List ℕ) (at : ℕ) {i : ℕ} (p : Passing (object_name s at) 512 i) where
  broken : {r : Bool} → i < 512 → not r ≡ true → r ≡ object_name s at i → 4294967295 ≡ object_top s at
  unfolding object_top
  broken h e f = sym (no _ (sym (passing-no p h e f refl)) refl)

  whole : {top : ℕ} → Growing (λ j. member_word s (at + j) 1) 512 i top → 512 ≤ i → top ≡ object_top s at
  unfolding object_top
  whole g h = growing_all g h refl ∙ sym (yes _ (sym (passing-all p h refl)))

pub loop-i-init : goal.loop-i-init
loop-i-init c = (search (passing-none, rules), search (growing_none, rules))

pub returns-then-not-name_follows : goal.returns-then-not-name_follows
returns-then-not-name_follows c = search (broken, rules)

pub loop-i-preserved : goal.loop-i-preserved
loop-i-preserved c = (search (passing-more, rules), search (growing_more, rules))

pub returns : goal.returns
returns c = search (whole, rules)
