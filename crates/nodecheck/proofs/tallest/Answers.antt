-- The greatest height of a node's children, by what the node is
use Rattle.std.proofs.Common.{rules}
use Prim.Native.Nat.{max, ℕ}
use mathlib.Core.Path.{◌∙◌, ◌≡◌, refl}
use native.Mathlib.Omega.{arith}
use Rattle.meaning.specs.Case.{arity, child}
use Rattle.meaning.specs.Tests.{greatest, pick}
use Rattle.nodecheck.proofs.Parts.{arity-at, child-at, first-low, second-low, terms_low}
use Rattle.laws.specs.Tests.{greatest-same}
use Rattle.nodecheck.proofs.tallest.Goals as goal

module _ (f : ℕ → ℕ) {k : ℕ} where
  of_none : k ≡ 0 → 0 ≡ greatest k f
  unfolding greatest
  of_none e = rw e

  of_one : {r a : ℕ} → r ≡ a → k ≡ 1 → a ≡ f 0 → r ≡ greatest k f
  unfolding greatest
  of_one e q a = let z : max 0 (f 0) ≡ f 0 = omega arith in rw (q, z) (e ∙ a)

  of_two : {r a b : ℕ} → r ≡ max a b → k ≡ 2 → a ≡ f 0 → b ≡ f 1 → r ≡ greatest k f
  unfolding greatest
  of_two e q a b = let z : max 0 (f 0) ≡ f 0 = omega arith in rw (q, z) (e ∙ rw (a, b) refl)

  of_run : (g : ℕ → ℕ) {n r : ℕ} → r ≡ greatest n g → k ≡ n → ((i : ℕ) → g i ≡ f i) → r ≡ greatest k f
  of_run g {n} e q same = e ∙ rw q (greatest-same g f n (λ i hi. same i))

pub pair_height-requires-clause-l_bound : goal.pair_height-requires-clause-l_bound
unfolding arity child pick
pair_height-requires-clause-l_bound c = search (first-low, rules)

pub pair_height-requires-clause-r_bound : goal.pair_height-requires-clause-r_bound
unfolding arity child pick
pair_height-requires-clause-r_bound c = search (second-low, rules)

pub pair_height-requires-in-Or-clause-l_bound : goal.pair_height-requires-in-Or-clause-l_bound
unfolding arity child pick
pair_height-requires-in-Or-clause-l_bound c = search (first-low, rules)

pub pair_height-requires-in-Or-clause-r_bound : goal.pair_height-requires-in-Or-clause-r_bound
unfolding arity child pick
pair_height-requires-in-Or-clause-r_bound c = search (second-low, rules)

pub one_height-requires : goal.one_height-requires
unfolding arity child pick
one_height-requires c = search (first-low, rules)

pub one_height-requires-in-Formerly : goal.one_height-requires-in-Formerly
unfolding arity child pick
one_height-requires-in-Formerly c = search (first-low, rules)

pub one_height-requires-in-Previous : goal.one_height-requires-in-Previous
unfolding arity child pick
one_height-requires-in-Previous c = search (first-low, rules)

pub pair_height-requires-in-Since-clause-l_bound : goal.pair_height-requires-in-Since-clause-l_bound
unfolding arity child pick
pair_height-requires-in-Since-clause-l_bound c = search (first-low, rules)

pub pair_height-requires-in-Since-clause-r_bound : goal.pair_height-requires-in-Since-clause-r_bound
unfolding arity child pick
pair_height-requires-in-Since-clause-r_bound c = search (second-low, rules)

pub argument_height-requires-clause-terms : goal.argument_height-requires-clause-terms
argument_height-requires-clause-terms c = search (terms_low, rules)

pub pair_height-requires-in-Comparison-clause-l_bound : goal.pair_height-requires-in-Comparison-clause-l_bound
unfolding arity child pick
pair_height-requires-in-Comparison-clause-l_bound c = search (first-low, rules)

pub pair_height-requires-in-Comparison-clause-r_bound : goal.pair_height-requires-in-Comparison-clause-r_bound
unfolding arity child pick
pair_height-requires-in-Comparison-clause-r_bound c = search (second-low, rules)

pub one_height-requires-in-Exists : goal.one_height-requires-in-Exists
unfolding arity child pick
one_height-requires-in-Exists c = search (first-low, rules)

pub one_height-requires-in-Aggregate : goal.one_height-requires-in-Aggregate
unfolding arity child pick
one_height-requires-in-Aggregate c = search (first-low, rules)

pub pair_height-requires-in-Arithmetic-clause-l_bound : goal.pair_height-requires-in-Arithmetic-clause-l_bound
unfolding arity child pick
pair_height-requires-in-Arithmetic-clause-l_bound c = search (first-low, rules)

pub pair_height-requires-in-Arithmetic-clause-r_bound : goal.pair_height-requires-in-Arithmetic-clause-r_bound
unfolding arity child pick
pair_height-requires-in-Arithmetic-clause-r_bound c = search (second-low, rules)

pub one_height-requires-in-Sum : goal.one_height-requires-in-Sum
unfolding arity child pick
one_height-requires-in-Sum c = search (first-low, rules)

pub one_height-requires-in-Count : goal.one_height-requires-in-Count
unfolding arity child pick
one_height-requires-in-Count c = search (first-low, rules)

pub returns-in-And : goal.returns-in-And
unfolding arity child pick
returns-in-And c = search (of_two, arity-at, child-at, rules)

pub returns-in-Or : goal.returns-in-Or
unfolding arity child pick
returns-in-Or c = search (of_two, arity-at, child-at, rules)

pub returns-in-Not : goal.returns-in-Not
unfolding arity child pick
returns-in-Not c = search (of_one, arity-at, child-at, rules)

pub returns-in-Formerly : goal.returns-in-Formerly
unfolding arity child pick
returns-in-Formerly c = search (of_one, arity-at, child-at, rules)

pub returns-in-Previous : goal.returns-in-Previous
unfolding arity child pick
returns-in-Previous c = search (of_one, arity-at, child-at, rules)

pub returns-in-Since : goal.returns-in-Since
unfolding arity child pick
returns-in-Since c = search (of_two, arity-at, child-at, rules)

pub returns-in-Predicate : goal.returns-in-Predicate
unfolding arity child pick
returns-in-Predicate c = search (of_run, arity-at, child-at, rules)

pub returns-in-Comparison : goal.returns-in-Comparison
unfolding arity child pick
returns-in-Comparison c = search (of_two, arity-at, child-at, rules)

pub returns-in-Exists : goal.returns-in-Exists
unfolding arity child pick
returns-in-Exists c = search (of_one, arity-at, child-at, rules)

pub returns-in-Tp : goal.returns-in-Tp
unfolding arity child pick
returns-in-Tp c = search (of_none, arity-at, rules)

pub returns-in-Literal : goal.returns-in-Literal
unfolding arity child pick
returns-in-Literal c = search (of_none, arity-at, rules)

pub returns-in-Context : goal.returns-in-Context
unfolding arity child pick
returns-in-Context c = search (of_none, arity-at, rules)

pub returns-in-Scope : goal.returns-in-Scope
unfolding arity child pick
returns-in-Scope c = search (of_none, arity-at, rules)

pub returns-in-Variable : goal.returns-in-Variable
unfolding arity child pick
returns-in-Variable c = search (of_none, arity-at, rules)

pub returns-in-Wildcard : goal.returns-in-Wildcard
unfolding arity child pick
returns-in-Wildcard c = search (of_none, arity-at, rules)

pub returns-in-Aggregate : goal.returns-in-Aggregate
unfolding arity child pick
returns-in-Aggregate c = search (of_one, arity-at, child-at, rules)

pub returns-in-Arithmetic : goal.returns-in-Arithmetic
unfolding arity child pick
returns-in-Arithmetic c = search (of_two, arity-at, child-at, rules)

pub returns-in-Sum : goal.returns-in-Sum
unfolding arity child pick
returns-in-Sum c = search (of_one, arity-at, child-at, rules)

pub returns-in-Count : goal.returns-in-Count
unfolding arity child pick
returns-in-Count c = search (of_one, arity-at, child-at, rules)

pub returns-in-Broken : goal.returns-in-Broken
unfolding arity child pick
returns-in-Broken c = search (of_none, arity-at, rules)
