use Rattle.std.proofs.Common.{rules}
use Prim.Native.Nat.{◌+◌, ◌<◌, ◌≤◌, ℕ}
use borrow.Author.Tests.{le-ltb, lt-ltb}
use lib.Dec.{ltb}
use mathlib.Core.Bool.{Bool, false}
use mathlib.Core.List.{List}
use mathlib.Core.Path.{◌∙◌, ◌≡◌, sym}
use native.Mathlib.Omega.{arith}
use Rattle.meaning.specs.Case.{list}
use Rattle.laws.specs.Tests.{all_more, all-stop, Passing, passing-none, passing-all, fails-here, fails-later}
use Rattle.meaning.specs.Tests.{all_below}
use Rattle.listruns.proofs.Runs.{run_in, run-whole, block_in, words_more, words-no}
use Rattle.listruns.proofs.below_run.Goals as goal

module _ (s : List ℕ) (first : ℕ) {test : ℕ → Bool} {items i n : ℕ} (p : Passing test items i) (lt : i < items) (e : n ≡ list s (first + i)) where
  word-no : (bound : ℕ) → bound ≤ n → ltb (list s (first + i)) bound ≡ test i → false ≡ all_below items test
  word-no bound l same = sym (all-stop test items i lt (sym same ∙ le-ltb _ _ (rw e at l)))

  word_more : (bound : ℕ) → n < bound → ltb (list s (first + i)) bound ≡ test i → Passing test items (i + 1)
  word_more bound l same = record { low = omega arith; is = all_more test i p.is (sym same ∙ lt-ltb _ _ (rw e at l)) }

pub returns-then-not-in_lists : goal.returns-then-not-in_lists
returns-then-not-in_lists c = search (fails-here, rules)

pub loop-i-init : goal.loop-i-init
loop-i-init c = (search (passing-none, rules), search (run_in, rules))

pub returns-then-bound-list_at : goal.returns-then-bound-list_at
returns-then-bound-list_at c = search (fails-later, word-no, rules)

pub loop-i-preserved-then-at-ne0 : goal.loop-i-preserved-then-at-ne0
loop-i-preserved-then-at-ne0 c = (search (word_more, rules), search rules)

pub bounds-tops-at : goal.bounds-tops-at
bounds-tops-at c = search (block_in, rules)

pub returns-then-bound-tops : goal.returns-then-bound-tops
returns-then-bound-tops c = search (fails-later, words-no, rules)

pub loop-i-preserved : goal.loop-i-preserved
loop-i-preserved c = (search (words_more, rules), search rules)

pub returns : goal.returns
returns c = search (run-whole, passing-all, rules)
