-- A node's rule and its children, by what the node is
use mathlib.Core.Path.{◌≡◌, sym, ◌∙◌, ap}
use mathlib.Core.Bool.{Bool, true}
use mathlib.Core.List.{List}
use Prim.Native.Nat.{ℕ, ◌<◌, ◌≤◌}
use lib.Dec.{ltb}
use Rattle.meaning.specs.declared.Node.{Node}
use Rattle.meaning.specs.Tests.{all_below}
use Rattle.meaning.specs.Case.{list, nodes, node_at, arity, child}
use Rattle.meaning.specs.Check.{bodies, rule_of, node_rule}
use Rattle.laws.specs.Nodes.{lower-child}
use native.Mathlib.Omega.{arith}
use lib.ListN.{get_or}
use borrow.Author.Tests.{ltb-true}
use Rattle.meaning.specs.declared.Node.TheVariants.{Predicate}
use Rattle.meaning.specs.declared.Run.{Run}
use Rattle.meaning.specs.declared.StrNo.{StrNo}
use Rattle.nodecheck.specs.Terms.{Terms}

pub by-node : (s : List ℕ) (n : ℕ) {node is : Node} {r : Bool} → node ≡ node_at s n → node ≡ is → r ≡ rule_of s n is → r ≡ node_rule s n
unfolding node_rule
by-node s n e f g = g ∙ ap (rule_of s n) (sym f ∙ e)

-- what node n is, and what its children are
module _ (s : List ℕ) (n : ℕ) {node is : Node} (e : node ≡ node_at s n) (f : node ≡ is) where
  pub arity-at : {k : ℕ} → arity is ≡ k → arity (node_at s n) ≡ k
  arity-at q = ap arity (sym (sym f ∙ e)) ∙ q

  pub child-at : (table : List ℕ) (i : ℕ) {x : ℕ} → child (list s) is i ≡ x → get_or table x 0 ≡ get_or table (child (list s) (node_at s n) i) 0
  child-at table i q = ap (λ (y : ℕ). get_or table y 0) (sym q ∙ ap (λ (y : Node). child (list s) y i) (sym f ∙ e))

  module _ (b : bodies s ≡ true) (h : all_below (nodes s) (node_rule s) ≡ true) where
    low-child : (i : ℕ) → i < arity is → child (list s) is i < n
    low-child i l = let q = sym f ∙ e in rw (sym q) at (lower-child s b h n i (rw q at l))

    pub first-low : {x : ℕ} → n ≤ 1024 → ltb 0 (arity is) ≡ true → child (list s) is 0 ≡ x → x < 1024
    first-low l a q = omega (arith, low-child 0 (ltb-true 0 (arity is) a), q)

    pub second-low : {x : ℕ} → n ≤ 1024 → ltb 1 (arity is) ≡ true → child (list s) is 1 ≡ x → x < 1024
    second-low l a q = omega (arith, low-child 1 (ltb-true 1 (arity is) a), q)

pub terms_low : (s : List ℕ) {n : ℕ} {node : Node} {namespace arguments : Run} {action kind : StrNo} → node ≡ node_at s n → node ≡ Predicate namespace action kind arguments → bodies s ≡ true → all_below (nodes s) (node_rule s) ≡ true → Terms s n arguments.first arguments.count
unfolding arity child
terms_low s {n} e f b h = record { low = λ i hi. low-child s n e f b h i hi }
