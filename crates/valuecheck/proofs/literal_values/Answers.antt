use Rattle.std.proofs.Common.{rules}
use Prim.Native.Nat.{◌<◌, ◌≤◌, ℕ}
use lib.Dec.{eqb}
use lib.ListN.{get_or}
use mathlib.Core.Bool.{Bool, false, not, true, ◌&&◌}
use mathlib.Core.List.{List}
use mathlib.Core.Path.{◌∙◌, ◌≡◌, refl, sym}
use native.Mathlib.Omega.{arith}
use Rattle.meaning.specs.Case.{value_word, values}
use Rattle.meaning.specs.Check.{literal, part_count, part_value, value_rule, mosts}
use Rattle.laws.specs.Tests.{Filled, all-at, all_same}
use Rattle.laws.specs.Values.{literal-is, runs, Runs}
use Rattle.meaning.specs.Tests.{◌and◌, ◌or◌, all_below}
use Rattle.stringcheck.specs.Mosts.{value-most}
use Rattle.stringcheck.specs.Tables.{filling_none, filling_more, filling_all}
use Rattle.valuecheck.specs.Laws.{marked_next, marked-none}
use Rattle.valuecheck.proofs.literal_values.Goals as goal

few : (s : List ℕ) {n : ℕ} → n ≡ values s → mosts s ≡ true → n ≤ 16384
few s e m = omega (arith, value-most s m)

keeps : (a b y : Bool) → ((y && not a) && not b) ≡ (not (a or b) and y)
unfolding ◌and◌ ◌or◌
keeps false false true = refl
keeps false false false = refl
keeps false true true = refl
keeps false true false = refl
keeps true b true = refl
keeps true b false = refl

module _ (s : List ℕ) {n : ℕ} (k : ℕ) (h : all_below (values s) (value_rule s) ≡ true) (e : n ≡ values s) (lt : k < n) where
  held-lower : Runs s k k
  held-lower = runs s k (omega arith) (all-at _ _ k h (omega arith))

  literal-as : {marks : List Bool} {q : ℕ} {y r : Bool} → r ≡ ((y && not (eqb q 0)) && not (eqb q 7)) → q ≡ value_word s k 0 → y ≡ all_below (part_count s k) (λ i. get_or marks (part_value s k i) false) → Filled false (literal s) marks k → r ≡ literal s k
  literal-as {marks} z eq j f =
      let same = all_same (λ i. get_or marks (part_value s k i) false) (λ i. literal s (part_value s k i)) (part_count s k) (λ i hi. f.at (part_value s k i) (held-lower.lower i hi)) in
      z ∙ keeps _ _ _ ∙ rw (j, same, eq) (sym (literal-is s h k (omega arith)))

pub loop-v-init : goal.loop-v-init
loop-v-init c = (search (filling_none, few, rules), search (marked-none, rules))

pub parts_marked-whole-requires-clause-runs : goal.parts_marked-whole-requires-clause-runs
parts_marked-whole-requires-clause-runs c = search (held-lower, rules)

pub loop-v-preserved : goal.loop-v-preserved
loop-v-preserved c = (search (filling_more, literal-as, rules), search (marked_next, rules))

pub returns : goal.returns
returns c = search (filling_all, rules)
