-- What passed node rules say: children have lower numbers; height by the children's
use Rattle.std.specs.Prelude.{◌≡◌, Bool, List, [], ◌∷◌}
use Rattle.std.proofs.Math.Path.{refl, ap}
use Rattle.std.proofs.Math.Bool.{true, false}
use Prim.Native.Nat.{ℕ, zero, suc, ◌+◌, ◌*◌, ◌<◌, ◌≤◌}
use Rattle.std.proofs.Common.{arith, lit<, ltb-true, ltb-false}
use Rattle.std.proofs.Math.Dec.{ltb}
use Rattle.meaning.specs.declared.NodeNo.{NodeNo}
use Rattle.meaning.specs.declared.Node.{Node}
use Rattle.meaning.specs.declared.Node.TheVariants.{And, Or, Not, Formerly, Previous, Since, Predicate, Comparison, Exists, Tp, Literal, Context, Scope, Variable, Wildcard, Aggregate, Arithmetic, Sum, Count, Broken}
use Rattle.meaning.specs.Tests.{choose, pick, all_below, greatest}
use Rattle.meaning.specs.Case.{nodes, node_word, list, node_at, node_from, under, arity, child}
use Rattle.meaning.specs.Check.{bodies, child_in, argument_rule, argument_run, rule_of, node_rule, height}
use Rattle.laws.specs.Tests.{both, all-at, levels-is}
use Rattle.laws.specs.Bodies.{wholes, body-beyond}

module _ (s : List ℕ) where
  -- of a child's test
  low : (low high n c : ℕ) → child_in s low high n c ≡ true → c < n
  low _ _ n c h = ltb-true c n (both _ _ h).0

  pair : (l r : NodeNo) (n i : ℕ) → l.0 < n → r.0 < n → i < 2 → pick (l.0 ∷ r.0 ∷ []) i 0 < n
  unfolding pick
  pair l r n zero hl hr hi = hl
  pair l r n (suc zero) hl hr hi = hr
  pair l r n (suc (suc i)) hl hr hi = absurd (omega arith)

  argument-low : (n first count i : ℕ) → argument_run s n first count ≡ true → i < count → list s (first + 3 * i + 2) < n
  unfolding argument_run argument_rule
  argument-low n first count i h hi = low 20 24 n _ (both _ _ (all-at _ _ i (both _ _ h).1 hi)).1

  lower_of : (n : ℕ) (nd : Node) → rule_of s n nd ≡ true → (i : ℕ) → i < arity nd → child (list s) nd i < n
  unfolding rule_of arity child
  lower_of n (And l r) h i hi = pair l r n i (low 1 10 n _ (both _ _ h).0) (low 1 10 n _ (both _ _ (both _ _ h).1).0) hi
  lower_of n (Or l r) h i hi = pair l r n i (low 1 10 n _ (both _ _ h).0) (low 1 10 n _ (both _ _ (both _ _ h).1).0) hi
  lower_of n (Not x) h i hi = low 1 10 n _ (both _ _ h).0
  lower_of n (Formerly span x) h i hi = low 1 10 n _ (both _ _ (both _ _ h).1).0
  lower_of n (Previous span x) h i hi = low 1 10 n _ (both _ _ (both _ _ h).1).0
  lower_of n (Since l r span) h i hi = pair l r n i (low 1 10 n _ (both _ _ h).0) (low 1 10 n _ (both _ _ (both _ _ h).1).0) hi
  lower_of n (Predicate namespace action kind args) h i hi = argument-low n args.first args.count i (both _ _ (both _ _ (both _ _ (both _ _ h).1).1).1).0 hi
  lower_of n (Comparison op l r) h i hi = pair l r n i (low 20 26 n _ (both _ _ (both _ _ h).1).0) (low 20 26 n _ (both _ _ (both _ _ (both _ _ h).1).1).0) hi
  lower_of n (Exists x b) h i hi = low 1 10 n _ (both _ _ (both _ _ h).1).0
  lower_of n (Tp x) h i hi = absurd (omega arith)
  lower_of n (Literal v) h i hi = absurd (omega arith)
  lower_of n (Context path) h i hi = absurd (omega arith)
  lower_of n (Scope root path) h i hi = absurd (omega arith)
  lower_of n (Variable x) h i hi = absurd (omega arith)
  lower_of n Wildcard h i hi = absurd (omega arith)
  lower_of n (Aggregate a) h i hi = low 30 31 n _ (both _ _ h).0
  lower_of n (Arithmetic op l r) h i hi = pair l r n i (low 20 26 n _ (both _ _ (both _ _ h).1).0) (low 20 26 n _ (both _ _ (both _ _ (both _ _ h).1).1).0) hi
  lower_of n (Sum x binders b) h i hi = low 1 10 n _ (both _ _ (both _ _ (both _ _ h).1).1).0
  lower_of n (Count binders b) h i hi = low 1 10 n _ (both _ _ (both _ _ h).1).0
  lower_of n Broken h i hi = absurd (omega arith)

  -- beyond the table there is no node
  pub node-beyond : bodies s ≡ true → (n : ℕ) → nodes s ≤ n → node_at s n ≡ Broken
  unfolding node_at node_word node_from under choose pick
  node-beyond h n l = rw (body-beyond s h 4 (8 * n + 0) (lit< tt) (omega (arith, wholes s h 4 (lit< tt)))) refl

  module _ (h : bodies s ≡ true) (rules : all_below (nodes s) (node_rule s) ≡ true) where
    -- a node of the table keeps its rule, any other is Broken and has no child
    pub lower-child : (n i : ℕ) → i < arity (node_at s n) → child (list s) (node_at s n) i < n
    unfolding arity
    lower-child n i hi = go (ltb n (nodes s)) refl
      where
        go : (b : Bool) → ltb n (nodes s) ≡ b → child (list s) (node_at s n) i < n
        go true e = lower_of n (node_at s n) (unfold node_rule in all-at (node_rule s) (nodes s) n rules (ltb-true _ _ e)) i hi
        go false e =
            let none : arity (node_at s n) ≡ arity Broken = ap arity (node-beyond h n (ltb-false _ _ e)) in
            absurd (omega (arith, none, hi))

    pub height-is : (n : ℕ) → height s n ≡ suc (greatest (arity (node_at s n)) (λ i. height s (child (list s) (node_at s n) i)))
    unfolding height
    height-is n = levels-is (λ n. arity (node_at s n)) (λ n i. child (list s) (node_at s n) i) (suc n) (λ m hm i hi. lower-child m i hi) n (omega arith)
