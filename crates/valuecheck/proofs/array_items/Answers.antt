use Rattle.std.proofs.Common.{rules}
use Prim.Native.Nat.{◌%◌, ◌*◌, ◌+◌, ◌-◌, ◌/◌, ◌<◌, ◌≤◌, ℕ}
use borrow.Author.Tests.{ltb-false, lt-ltb, le-ltb}
use lib.Dec.{ltb}
use lib.ListN.{get_or}
use mathlib.Core.Bool.{false}
use mathlib.Core.List.{List}
use mathlib.Core.Path.{◌≡◌, refl, sym, ◌∙◌}
use native.Mathlib.Omega.{arith}
use Rattle.meaning.specs.Case.{members}
use Rattle.meaning.specs.Check.{array_item}
use Rattle.laws.specs.Tests.{Filled, Passing, passing-none, passing-more, passing-no, passing-all, passing-block, passing-out}
use Rattle.meaning.specs.Tests.{all_below}
use Rattle.valuecheck.specs.Blocks.{top_of}
use Rattle.valuecheck.specs.Laws.{array-top}
use Rattle.valuecheck.proofs.Parts.{in_tops}
use Rattle.valuecheck.proofs.array_items.Goals as goal

module _ (s : List ℕ) {tops : List ℕ} (v : ℕ) {first items i f j : ℕ} (p : Passing (array_item s v first) items i) (t : Filled 0 (λ b. top_of s (512 * b)) tops (members s / 512)) (l : first + items ≤ members s) (ef : f ≡ first) (ej : j ≡ i) (a : (f + j) % 512 ≡ 0) (w : ltb (items - i) 512 ≡ false) (h : i < items) (fits : v < 4294967296) where
  top : ltb (get_or tops ((f + j) / 512) 0) v ≡ all_below 512 (λ j. array_item s v first (i + j))
  top = array-top s v first i ((f + j) / 512) t (omega (arith, ltb-false (items - i) 512 w)) (omega arith) fits

  block_no : v ≤ get_or tops ((f + j) / 512) 0 → false ≡ all_below items (array_item s v first)
  block_no d = passing-out p 512 (omega (arith, ltb-false (items - i) 512 w)) (sym top ∙ le-ltb _ _ d) refl

  block_more : get_or tops ((f + j) / 512) 0 < v → Passing (array_item s v first) items (i + 512)
  block_more d = passing-block p 512 (omega (arith, ltb-false (items - i) 512 w)) (sym top ∙ lt-ltb _ _ d)

pub loop-i-init : goal.loop-i-init
loop-i-init c = search (passing-none, rules)

pub returns-then-not-array_item : goal.returns-then-not-array_item
returns-then-not-array_item c = search (passing-no, rules)

pub loop-i-preserved-then-at-ne0 : goal.loop-i-preserved-then-at-ne0
loop-i-preserved-then-at-ne0 c = search (passing-more, rules)

pub bounds-tops-at : goal.bounds-tops-at
bounds-tops-at c = search (in_tops, rules)

pub returns-then-v-tops : goal.returns-then-v-tops
returns-then-v-tops c = search (block_no, rules)

pub loop-i-preserved : goal.loop-i-preserved
loop-i-preserved c = search (block_more, rules)

pub returns : goal.returns
returns c = search (passing-all, rules)
