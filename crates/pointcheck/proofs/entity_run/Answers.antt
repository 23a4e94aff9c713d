use Rattle.std.proofs.Common.{rules}
use Prim.Native.Nat.{◌%◌, ◌*◌, ◌+◌, ◌-◌, ◌/◌, ◌<◌, ℕ}
use lib.Dec.{ltb}
use lib.ListN.{get_or}
use mathlib.Core.Bool.{Bool, false, not, true}
use mathlib.Core.List.{List}
use mathlib.Core.Path.{◌≡◌, sym}
use native.Mathlib.Omega.{arith}
use Rattle.meaning.specs.Check.{entity_item, entity_run}
use Rattle.laws.specs.Tests.{Passing, passing-none, passing-more, passing-no, passing-all, said, denied, fails-later}
use Rattle.meaning.specs.Tests.{all_below}
use Rattle.listruns.specs.Blocks.{Entities}
use Rattle.pointcheck.specs.Laws.{entities-more, entities-stop}
use Rattle.listruns.proofs.Runs.{InLists, run_past, run_fits, run-whole, third_in, third-fits, third_at}
use Rattle.pointcheck.proofs.entity_run.Goals as goal

module _ {s : List ℕ} {first items i f j : ℕ} (r : InLists s 3 first items) (ef : f ≡ first) (ej : j ≡ i) (lt : i < items) (a : (f + 3 * j) % 1536 < 3) (w : ltb (items - i) 512 ≡ false) {blocks : List Bool} (t : Entities s blocks) where
  block : get_or blocks (3 * ((f + 3 * j) / 1536) + (f + 3 * j) % 1536) false ≡ all_below 512 (entity_item s (f + 3 * j))
  block = third_at r ef ej lt a w (λ x. all_below 512 (entity_item s x)) t

module _ {s : List ℕ} {first items i f j : ℕ} {blocks : List Bool} where
  block_no : not (get_or blocks (3 * ((f + 3 * j) / 1536) + (f + 3 * j) % 1536) false) ≡ true → f ≡ first → j ≡ i → (f + 3 * j) % 1536 < 3 → ltb (items - i) 512 ≡ false → i < items → InLists s 3 first items → Entities s blocks → false ≡ all_below items (entity_item s first)
  block_no n ef ej a w lt r t = sym (entities-stop s first i (f + 3 * j) (omega arith) items (third-fits r ef ej lt a w) (denied n (block r ef ej lt a w t)))

  block_more : {q : Bool} → not (get_or blocks (3 * ((f + 3 * j) / 1536) + (f + 3 * j) % 1536) false) ≡ false → f ≡ first → j ≡ i → (f + 3 * j) % 1536 < 3 → ltb (items - i) 512 ≡ false → i < items → InLists s 3 first items → Entities s blocks → Passing (entity_item s first) items i → q ≡ entity_item s first i → not q ≡ false → Passing (entity_item s first) items (i + 512)
  block_more n ef ej a w lt r t p eq nq = record { low = third-fits r ef ej lt a w; is = entities-more s first i (f + 3 * j) (omega arith) p.is (said nq eq) (said n (block r ef ej lt a w t)) }

pub returns-then-list_count-first : goal.returns-then-list_count-first
unfolding entity_run
returns-then-list_count-first c = search (run_past, rules)

pub loop-i-init : goal.loop-i-init
loop-i-init c = (search (passing-none, rules), search (run_fits, rules))

pub returns-then-not-entity_item : goal.returns-then-not-entity_item
unfolding entity_run
returns-then-not-entity_item c = search (fails-later, passing-no, rules)

pub loop-i-preserved-then-at-ge3 : goal.loop-i-preserved-then-at-ge3
loop-i-preserved-then-at-ge3 c = (search (passing-more, rules), search rules)

pub bounds-blocks-k : goal.bounds-blocks-k
bounds-blocks-k c = search (third_in, rules)

pub returns-then-not-blocks-k : goal.returns-then-not-blocks-k
unfolding entity_run
returns-then-not-blocks-k c = search (fails-later, block_no, rules)

pub loop-i-preserved : goal.loop-i-preserved
loop-i-preserved c = (search (block_more, rules), search rules)

pub returns : goal.returns
unfolding entity_run
returns c = search (run-whole, passing-all, rules)
