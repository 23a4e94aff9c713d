use Rattle.std.proofs.Common.{rules}
use Prim.Native.Nat.{◌+◌, ◌<◌, ◌≤◌, ℕ}
use borrow.Author.Tests.{ne_eqb}
use lib.Dec.{eqb}
use mathlib.Core.List.{List}
use mathlib.Core.Path.{◌∙◌, ◌≡◌, refl, sym}
use Rattle.meaning.specs.Case.{member_word, nothing}
use Rattle.laws.specs.Tests.{all-stop, yes, Passing, passing-none, passing-all, Growing, growing_none, growing_more, growing_all, no}
use Rattle.valuecheck.specs.Blocks.{top_of}
use Rattle.valuecheck.proofs.Words.{word-is, word-passes}
use Rattle.valuecheck.proofs.block_top.Goals as goal

module _ (s : List ℕ) (at : ℕ) {i : ℕ} (p : Passing (λ j. eqb (member_word s (at + j) 0) nothing) 512 i) where
  named : {n : ℕ} → i < 512 → n ≡ member_word s (at + i) 0 → (n ≡ 4294967295 → ⊥) → 4294967295 ≡ top_of s at
  unfolding top_of
  named h e f = sym (no _ (all-stop _ 512 i h (ne_eqb _ _ (λ q. f (e ∙ q)))) refl)

  whole : {top : ℕ} → Growing (λ j. member_word s (at + j) 1) 512 i top → 512 ≤ i → top ≡ top_of s at
  unfolding top_of
  whole g h = growing_all g h refl ∙ sym (yes _ (sym (passing-all p h refl)))

pub loop-i-init : goal.loop-i-init
loop-i-init c = search (passing-none, growing_none, rules)

pub returns-then-member_word : goal.returns-then-member_word
returns-then-member_word c = search (named, rules)

pub loop-i-preserved : goal.loop-i-preserved
loop-i-preserved c = (search (word-passes, word-is, rules), search (growing_more, rules))

pub returns : goal.returns
returns c = search (whole, rules)
