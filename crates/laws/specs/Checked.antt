-- What a passed check says, rule by rule: what everything above asks of a case
use Rattle.std.specs.Prelude.{◌≡◌, true, List, ℕ, ◌<◌, ◌≤◌}
use borrow.Author.Tests.{leb-true}
use Rattle.meaning.specs.Tests.{all_below}
use Rattle.meaning.specs.Case.{strings, values, points, nodes, vars, list, node_at, value_at, arity, child, case_of}
use Rattle.meaning.specs.Equal.{see, alike, same_value}
use Rattle.meaning.specs.Check.{check, Checked, bodies, mosts, string_rules, value_rules, point_rules, node_rules, end_to_end, value_rule, node_rule}
use Rattle.laws.specs.Tests.{both, unbroken}
use Rattle.laws.specs.Lists.{Every}
use Rattle.laws.specs.Values as Values
use Rattle.laws.specs.Nodes as Nodes

-- each rule of six passes
pub record Rules (s : List ℕ) : Type 0 where
  pub bodies : bodies s ≡ true
  pub mosts : mosts s ≡ true
  pub strings : string_rules s ≡ true
  pub values : value_rules s ≡ true
  pub points : point_rules s ≡ true
  pub nodes : node_rules s ≡ true

pub rules : (s : List ℕ) → Checked s → Rules s
unfolding check
rules s c =
    let h1 = unbroken (bodies s) _ _ c.passes in
    let h2 = unbroken (mosts s) _ _ h1.1 in
    let h3 = unbroken (string_rules s) _ _ h2.1 in
    let h4 = unbroken (value_rules s) _ _ h3.1 in
    let h5 = unbroken (point_rules s) _ _ h4.1 in
    let h6 = unbroken (node_rules s) _ _ h5.1 in
    record { bodies = h1.0; mosts = h2.0; strings = h3.0; values = h4.0; points = h5.0; nodes = h6.0 }

module _ {s : List ℕ} (c : Checked s) where
  pub checked-bodies : bodies s ≡ true
  checked-bodies = (rules s c).bodies

  pub checked-strings : end_to_end s ≡ true
  unfolding string_rules
  checked-strings = (both _ _ (rules s c).strings).0

  pub checked-values : all_below (values s) (value_rule s) ≡ true
  unfolding value_rules
  checked-values = (both _ _ (both _ _ (rules s c).values).1).0

  pub checked-nodes : all_below (nodes s) (node_rule s) ≡ true
  unfolding node_rules
  checked-nodes = (both _ _ (rules s c).nodes).0

  -- the mosts, as numbers

  pub values-most : values s ≤ 16384
  unfolding mosts
  values-most = leb-true _ _ (both _ _ (both _ _ (both _ _ (rules s c).mosts).1).1).0

  pub points-most : points s ≤ 16384
  unfolding mosts
  points-most = leb-true _ _ (both _ _ (both _ _ (both _ _ (both _ _ (rules s c).mosts).1).1).1).0

  pub vars-most : vars s ≤ 16
  unfolding mosts
  vars-most = leb-true _ _ (both _ _ (both _ _ (both _ _ (both _ _ (both _ _ (rules s c).mosts).1).1).1).1).1

  -- what is in a value, and below a node, has a lower number

  pub lower-parts : (v : ℕ) → Every (λ j. j < v) (Values.held (see (case_of s) (value_at s v)).parts)
  lower-parts = Values.lower-parts s checked-bodies checked-values

  pub same_value-is : (k n : ℕ) → same_value (case_of s) k n ≡ alike (same_value (case_of s)) (see (case_of s) (value_at s k)) (see (case_of s) (value_at s n))
  same_value-is = Values.same_value-is s checked-bodies checked-values

  pub lower-child : (n i : ℕ) → i < arity (node_at s n) → child (list s) (node_at s n) i < n
  lower-child = Nodes.lower-child s checked-bodies checked-nodes
