use Rattle.std.proofs.Common.{rules}
use Prim.Native.Nat.{◌+◌, ◌<◌, ◌≤◌, suc, ℕ}
use borrow.Author.Tests.{le-leb, lt-leb}
use lib.ListN.{get_or}
use mathlib.Core.Bool.{false, true}
use mathlib.Core.List.{List}
use mathlib.Core.Path.{◌∙◌, ◌≡◌, ap, sym}
use native.Mathlib.Numerals.{add-one}
use native.Mathlib.Omega.{arith}
use Rattle.meaning.specs.Case.{arity, child, list, node_at, nodes}
use Rattle.meaning.specs.Check.{bodies, height, height_rule, node_rule, mosts}
use Rattle.laws.specs.Nodes.{height-is, lower-child}
use Rattle.laws.specs.Tests.{Filled, all_more, all-stop, greatest-same, Passing, passing-none, passing-all}
use Rattle.meaning.specs.Tests.{all_below, greatest}
use Rattle.stringcheck.specs.Mosts.{node-most}
use Rattle.stringcheck.specs.Tables.{filling_none, filling_more}
use Rattle.nodecheck.proofs.check_heights.Goals as goal

few : (s : List ℕ) {n : ℕ} → n ≡ nodes s → mosts s ≡ true → n ≤ 1024
few s e m = omega (arith, node-most s m)

module _ (s : List ℕ) (n : ℕ) {table : List ℕ} {d : ℕ} (e : d ≡ greatest (arity (node_at s n)) (λ i. get_or table (child (list s) (node_at s n) i) 0)) (t : Filled 0 (height s) table n) (b : bodies s ≡ true) (h : all_below (nodes s) (node_rule s) ≡ true) where
  height-as : d + 1 ≡ height s n
  height-as =
      let same = greatest-same (λ i. get_or table (child (list s) (node_at s n) i) 0) (λ i. height s (child (list s) (node_at s n) i)) (arity (node_at s n)) (λ i hi. t.at _ (lower-child s b h n i hi)) in
      add-one d ∙ ap suc (e ∙ same) ∙ sym (height-is s b h n)

  module _ {count : ℕ} (lt : n < count) where
    too-high : 64 ≤ d → count ≡ nodes s → false ≡ all_below (nodes s) (height_rule s)
    unfolding height_rule
    too-high l q = sym (all-stop (height_rule s) (nodes s) n (omega arith) (lt-leb (height s n) 64 (omega (arith, height-as))))

    one_more : d < 64 → Passing (height_rule s) count n → Passing (height_rule s) count (n + 1)
    unfolding height_rule
    one_more l p = record { low = omega arith; is = all_more (height_rule s) n p.is (le-leb (height s n) 64 (omega (arith, height-as))) }

pub loop-n-init : goal.loop-n-init
loop-n-init c = (search (passing-none, rules), search (filling_none, few, rules))

pub returns-then-below-ge64 : goal.returns-then-below-ge64
returns-then-below-ge64 c = search (too-high, rules)

pub loop-n-preserved : goal.loop-n-preserved
loop-n-preserved c = (search (one_more, rules), search (filling_more, height-as, rules))

pub returns : goal.returns
returns c = search (passing-all, rules)
