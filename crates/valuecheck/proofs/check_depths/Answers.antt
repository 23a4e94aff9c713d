use Rattle.std.proofs.Common.{rules}
use Prim.Native.Nat.{◌+◌, ◌<◌, ◌≤◌, suc, ℕ}
use borrow.Author.Tests.{le-leb, lt-leb}
use mathlib.Core.Bool.{false, true}
use mathlib.Core.List.{List}
use mathlib.Core.Path.{◌∙◌, ◌≡◌, ap, sym}
use native.Mathlib.Numerals.{add-one}
use native.Mathlib.Omega.{arith}
use Rattle.meaning.specs.Case.{values}
use Rattle.meaning.specs.Check.{depth, depth_rule, part_count, part_value, value_rule, mosts}
use Rattle.laws.specs.Tests.{all-at, all_more, all-stop, Passing, passing-none, passing-all}
use Rattle.laws.specs.Values.{depth_is, runs, Runs}
use Rattle.meaning.specs.Tests.{all_below, greatest}
use Rattle.stringcheck.specs.Mosts.{value-most}
use Rattle.stringcheck.specs.Tables.{filling_none, filling_more}
use Rattle.valuecheck.specs.Laws.{depths_none}
use Rattle.valuecheck.proofs.check_depths.Goals as goal

few : (s : List ℕ) {n : ℕ} → n ≡ values s → mosts s ≡ true → n ≤ 16384
few s e m = omega (arith, value-most s m)

module _ (s : List ℕ) {n : ℕ} (k : ℕ) (h : all_below (values s) (value_rule s) ≡ true) (e : n ≡ values s) (lt : k < n) where
  held-lower : Runs s k k
  held-lower = runs s k (omega arith) (all-at _ _ k h (omega arith))

  module _ {d : ℕ} (ed : d ≡ greatest (part_count s k) (λ i. depth s (part_value s k i))) where
    depth-as : d + 1 ≡ depth s k
    depth-as = add-one d ∙ ap suc ed ∙ sym (depth_is s h k (omega arith))

    too-deep : 32 ≤ d → false ≡ all_below (values s) (depth_rule s)
    unfolding depth_rule
    too-deep l = sym (all-stop (depth_rule s) _ k (omega arith) (lt-leb (depth s k) 32 (omega (arith, depth-as))))

    one_more : Passing (depth_rule s) n k → d < 32 → Passing (depth_rule s) n (k + 1)
    unfolding depth_rule
    one_more p l = record { low = omega arith; is = all_more (depth_rule s) k p.is (le-leb (depth s k) 32 (omega (arith, depth-as))) }

pub loop-v-init : goal.loop-v-init
loop-v-init c = (search (passing-none, rules), search (filling_none, few, rules), search (depths_none, rules))

pub deepest-d-requires-clause-runs : goal.deepest-d-requires-clause-runs
deepest-d-requires-clause-runs c = search (held-lower, rules)

pub returns-then-d-ge32 : goal.returns-then-d-ge32
returns-then-d-ge32 c = search (too-deep, rules)

pub loop-v-preserved : goal.loop-v-preserved
loop-v-preserved c = (search (one_more, rules), search (filling_more, depth-as, rules), search rules)

pub returns : goal.returns
returns c = search (passing-all, rules)
