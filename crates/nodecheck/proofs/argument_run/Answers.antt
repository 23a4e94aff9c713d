use Rattle.std.proofs.Common.{rules}
use Prim.Native.Nat.{◌%◌, ◌*◌, ◌+◌, ◌-◌, ◌/◌, ◌<◌, ◌≤◌, ℕ}
use borrow.Author.Tests.{lt-ltb, le-ltb}
use lib.Dec.{ltb}
use lib.ListN.{get_or}
use mathlib.Core.Bool.{Bool, false}
use mathlib.Core.List.{List}
use mathlib.Core.Path.{◌∙◌, ◌≡◌, refl, sym, ap}
use native.Mathlib.Omega.{arith}
use Rattle.meaning.specs.Check.{argument_rule, argument_run}
use Rattle.laws.specs.Tests.{Passing, passing-none, passing-more, passing-no, passing-all, passing-block, passing-out, fails-later, all_same}
use Rattle.meaning.specs.Tests.{all_below}
use Rattle.nodecheck.specs.Laws.{top-is}
use Rattle.nodecheck.specs.Terms.{ArgumentTops, argument_top}
use Rattle.listruns.proofs.Runs.{InLists, run_past, run_fits, run-whole}
use Rattle.nodecheck.proofs.Blocks.{block_in, block-fits, block_at}
use Rattle.nodecheck.proofs.argument_run.Goals as goal

module _ {s : List ℕ} {first items i f j : ℕ} (r : InLists s 3 first items) (ef : f ≡ first) (ej : j ≡ i) (lt : i < items) (a : (f + 3 * j) % 384 < 3) (w : ltb (items - i) 128 ≡ false) {terms : List ℕ} (t : ArgumentTops s terms) {test : ℕ → Bool} (p : Passing test items i) (n : ℕ) (fits : n < 4294967296) (same : (x : ℕ) → test x ≡ argument_rule s n (first + 3 * x)) where
  block : ltb (get_or terms (3 * ((f + 3 * j) / 384) + (f + 3 * j) % 384) 0) n ≡ all_below 128 (λ x. test (i + x))
  block =
      ap (λ (x : ℕ). ltb x n) (block_at r ef ej lt a w (argument_top s) t) ∙ top-is s n (f + 3 * j) fits
      ∙ all_same (λ x. argument_rule s n (f + 3 * j + 3 * x)) (λ x. test (i + x)) 128 (λ x hx. let q : f + 3 * j + 3 * x ≡ first + 3 * (i + x) = omega arith in rw q (sym (same (i + x))))

module _ {s : List ℕ} {first items i f j : ℕ} {terms : List ℕ} {test : ℕ → Bool} (n : ℕ) where
  block_more : get_or terms (3 * ((f + 3 * j) / 384) + (f + 3 * j) % 384) 0 < n → f ≡ first → j ≡ i → (f + 3 * j) % 384 < 3 → ltb (items - i) 128 ≡ false → i < items → Passing test items i → InLists s 3 first items → ArgumentTops s terms → n < 4294967296 → ((x : ℕ) → test x ≡ argument_rule s n (first + 3 * x)) → Passing test items (i + 128)
  block_more d ef ej a w lt p r t fits same = passing-block p 128 (block-fits r ef ej lt a w) (sym (block r ef ej lt a w t p n fits same) ∙ lt-ltb _ _ d)

  block_no : n ≤ get_or terms (3 * ((f + 3 * j) / 384) + (f + 3 * j) % 384) 0 → f ≡ first → j ≡ i → (f + 3 * j) % 384 < 3 → ltb (items - i) 128 ≡ false → i < items → Passing test items i → InLists s 3 first items → ArgumentTops s terms → n < 4294967296 → ((x : ℕ) → test x ≡ argument_rule s n (first + 3 * x)) → false ≡ all_below items test
  block_no d ef ej a w lt p r t fits same = passing-out p 128 (block-fits r ef ej lt a w) (sym (block r ef ej lt a w t p n fits same) ∙ le-ltb _ _ d) refl

pub returns-then-list_count-first : goal.returns-then-list_count-first
unfolding argument_run
returns-then-list_count-first c = search (run_past, rules)

pub loop-i-init : goal.loop-i-init
loop-i-init c = (search (passing-none, rules), search (run_fits, rules))

pub returns-then-not-argument_rule : goal.returns-then-not-argument_rule
unfolding argument_run
returns-then-not-argument_rule c = search (fails-later, passing-no, rules)

pub loop-i-preserved-then-at-ge3 : goal.loop-i-preserved-then-at-ge3
loop-i-preserved-then-at-ge3 c = (search (passing-more, rules), search rules)

pub bounds-terms-k : goal.bounds-terms-k
bounds-terms-k c = search (block_in, rules)

pub returns-then-n-terms : goal.returns-then-n-terms
unfolding argument_run
returns-then-n-terms c = search (fails-later, block_no, rules)

pub loop-i-preserved : goal.loop-i-preserved
loop-i-preserved c = (search (block_more, rules), search rules)

pub returns : goal.returns
unfolding argument_run
returns c = search (run-whole, passing-all, rules)
