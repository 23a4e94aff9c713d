use Rattle.std.proofs.Common.{rules}
use Prim.Native.Nat.{◌%◌, ◌*◌, ◌+◌, ◌-◌, ◌/◌, ◌<◌, ◌≤◌, ℕ}
use borrow.Author.Tests.{ltb-false}
use lib.Dec.{ltb}
use lib.ListN.{get_or}
use mathlib.Core.Bool.{Bool, false, not}
use mathlib.Core.List.{List}
use mathlib.Core.Path.{◌≡◌, refl, sym}
use native.Mathlib.Omega.{arith}
use Rattle.meaning.specs.Case.{members}
use Rattle.meaning.specs.Check.{object_item}
use Rattle.meaning.specs.Tests.{all_below}
use Rattle.laws.specs.Tests.{Filled, Passing, passing-none, passing-more, passing-no, passing-all, said}
use Rattle.valuecheck.specs.Blocks.{object_top}
use Rattle.valuecheck.specs.Laws.{object-more, object-stop}
use Rattle.valuecheck.proofs.Parts.{in_tops}
use Rattle.valuecheck.proofs.object_items.Goals as goal

module _ (s : List ℕ) {tops : List ℕ} (v : ℕ) {first items i f j : ℕ} (p : Passing (object_item s v first) items i) (t : Filled 0 (λ b. object_top s (512 * b)) tops (members s / 512)) (l : first + items ≤ members s) (ef : f ≡ first) (ej : j ≡ i) (a : (f + j) % 512 ≡ 0) (w : ltb (items - i) 512 ≡ false) (h : i < items) (fits : v < 4294967296) where
  few : i + 512 ≤ items
  few = omega (arith, ltb-false (items - i) 512 w)

  block_no : v ≤ get_or tops ((f + j) / 512) 0 → false ≡ all_below items (object_item s v first)
  block_no d = sym (object-stop s v first i (first + i) refl ((f + j) / 512) t (omega (arith, few)) (omega arith) fits items few d)

  block_more : {r : Bool} → get_or tops ((f + j) / 512) 0 < v → not r ≡ false → r ≡ object_item s v first i → Passing (object_item s v first) items (i + 512)
  block_more d n e = record { low = few; is = object-more s v first i (first + i) refl ((f + j) / 512) t (omega (arith, few)) (omega arith) fits p.is (said n e) d }

pub loop-i-init : goal.loop-i-init
loop-i-init c = search (passing-none, rules)

pub returns-then-not-object_item : goal.returns-then-not-object_item
returns-then-not-object_item c = search (passing-no, rules)

pub loop-i-preserved-then-at-ne0 : goal.loop-i-preserved-then-at-ne0
loop-i-preserved-then-at-ne0 c = search (passing-more, rules)

pub bounds-tops-at : goal.bounds-tops-at
bounds-tops-at c = search (in_tops, rules)

pub returns-then-v-tops : goal.returns-then-v-tops
returns-then-v-tops c = search (block_no, rules)

pub loop-i-preserved : goal.loop-i-preserved
loop-i-preserved c = search (block_more, rules)

pub returns : goal.returns
returns c = search (passing-all, rules)
