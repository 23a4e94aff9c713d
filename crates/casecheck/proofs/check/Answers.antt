-- The check answers the first refusal of the rules in their order, or what the file holds
use Rattle.std.proofs.Common.{rules, Ok, Err}
use Prim.Native.Nat.{ℕ}
use mathlib.Core.Bool.{false, true}
use mathlib.Core.List.{List}
use mathlib.Core.Option.{none, some}
use mathlib.Core.Path.{◌∙◌, ◌≡◌, refl}
use Rattle.casecheck.specs.Answer.{answer, as_checking, contents_of}
use Rattle.meaning.specs.Case.{values}
use Rattle.meaning.specs.Check.{bodies, check, end_to_end, mosts, node_rules, point_rules, string_rules, value_rule, value_rules}
use Rattle.laws.specs.Tests.{both, no, yes, said, denied}
use Rattle.meaning.specs.Tests.{all_below}
use Rattle.meaning.specs.declared.Refusal.{Refusal}
use Rattle.meaning.specs.declared.Refusal.TheVariants.{BadContents, TooLarge, BadStrings, BadValues, BadPoints, BadNodes}
use Rattle.casecheck.specs.declared.Contents.{Contents}
use Rattle.casecheck.proofs.check.Goals as goal

refused : (s : List ℕ) (r : Refusal) → check s ≡ some r → Err r ≡ as_checking s
unfolding as_checking answer
refused s r e = rw e refl

passes : (s : List ℕ) (k : Contents) → check s ≡ none → k ≡ contents_of s → Ok k ≡ as_checking s
unfolding as_checking answer
passes s k e f = rw (e, f) refl

module _ (s : List ℕ) where
  contents-bad : bodies s ≡ false → check s ≡ some BadContents
  unfolding check
  contents-bad e = no _ e refl

  too_large : bodies s ≡ true → mosts s ≡ false → check s ≡ some TooLarge
  unfolding check
  too_large a e = yes _ a ∙ no _ e refl

  strings-bad : bodies s ≡ true → mosts s ≡ true → string_rules s ≡ false → check s ≡ some BadStrings
  unfolding check
  strings-bad a b e = yes _ a ∙ yes _ b ∙ no _ e refl

  values-bad : bodies s ≡ true → mosts s ≡ true → string_rules s ≡ true → value_rules s ≡ false → check s ≡ some BadValues
  unfolding check
  values-bad a b d e = yes _ a ∙ yes _ b ∙ yes _ d ∙ no _ e refl

  points-bad : bodies s ≡ true → mosts s ≡ true → string_rules s ≡ true → value_rules s ≡ true → point_rules s ≡ false → check s ≡ some BadPoints
  unfolding check
  points-bad a b d f e = yes _ a ∙ yes _ b ∙ yes _ d ∙ yes _ f ∙ no _ e refl

  nodes-bad : bodies s ≡ true → mosts s ≡ true → string_rules s ≡ true → value_rules s ≡ true → point_rules s ≡ true → node_rules s ≡ false → check s ≡ some BadNodes
  unfolding check
  nodes-bad a b d f g e = yes _ a ∙ yes _ b ∙ yes _ d ∙ yes _ f ∙ yes _ g ∙ no _ e refl

  all_pass : bodies s ≡ true → mosts s ≡ true → string_rules s ≡ true → value_rules s ≡ true → point_rules s ≡ true → node_rules s ≡ true → check s ≡ none
  unfolding check
  all_pass a b d f g h = yes _ a ∙ yes _ b ∙ yes _ d ∙ yes _ f ∙ yes _ g ∙ yes _ h

  placed : string_rules s ≡ true → end_to_end s ≡ true
  unfolding string_rules
  placed h = (both _ _ h).0

  each : value_rules s ≡ true → all_below (values s) (value_rule s) ≡ true
  unfolding value_rules
  each h = (both _ _ (both _ _ h).1).0

pub returns-then-not-check_bodies : goal.returns-then-not-check_bodies
returns-then-not-check_bodies c = search (refused, contents-bad, denied, rules)

pub check_mosts-requires : goal.check_mosts-requires
check_mosts-requires c = search (said, rules)

pub returns-then-not-check_mosts : goal.returns-then-not-check_mosts
returns-then-not-check_mosts c = search (refused, too_large, said, denied, rules)

pub check_strings-requires : goal.check_strings-requires
check_strings-requires c = search (said, rules)

pub returns-then-not-check_strings : goal.returns-then-not-check_strings
returns-then-not-check_strings c = search (refused, strings-bad, said, denied, rules)

pub check_values-requires-clause-s_value : goal.check_values-requires-clause-s_value
check_values-requires-clause-s_value c = search (said, rules)

pub check_values-requires-clause-s_value_2 : goal.check_values-requires-clause-s_value_2
check_values-requires-clause-s_value_2 c = search (said, rules)

pub returns-then-not-check_values : goal.returns-then-not-check_values
returns-then-not-check_values c = search (refused, values-bad, said, denied, rules)

pub list_tops-tops-requires-clause-s_value : goal.list_tops-tops-requires-clause-s_value
list_tops-tops-requires-clause-s_value c = search (said, rules)

pub list_tops-tops-requires-clause-s_value_2 : goal.list_tops-tops-requires-clause-s_value_2
list_tops-tops-requires-clause-s_value_2 c = search (said, rules)

pub check_points-requires-clause-s_value : goal.check_points-requires-clause-s_value
check_points-requires-clause-s_value c = search (said, rules)

pub check_points-requires-clause-s_value_2 : goal.check_points-requires-clause-s_value_2
check_points-requires-clause-s_value_2 c = search (said, rules)

pub check_points-requires-clause-s_value_3 : goal.check_points-requires-clause-s_value_3
check_points-requires-clause-s_value_3 c = search (placed, said, rules)

pub returns-then-not-check_points : goal.returns-then-not-check_points
returns-then-not-check_points c = search (refused, points-bad, said, denied, rules)

pub free_strings-undotted-requires-clause-s_value : goal.free_strings-undotted-requires-clause-s_value
free_strings-undotted-requires-clause-s_value c = search (said, rules)

pub free_strings-undotted-requires-clause-s_value_2 : goal.free_strings-undotted-requires-clause-s_value_2
free_strings-undotted-requires-clause-s_value_2 c = search (said, rules)

pub free_strings-undotted-requires-clause-s_value_3 : goal.free_strings-undotted-requires-clause-s_value_3
free_strings-undotted-requires-clause-s_value_3 c = search (placed, said, rules)

pub path_blocks-paths-requires : goal.path_blocks-paths-requires
path_blocks-paths-requires c = search (said, rules)

pub check_nodes-requires-clause-s_value : goal.check_nodes-requires-clause-s_value
check_nodes-requires-clause-s_value c = search (said, rules)

pub check_nodes-requires-clause-s_value_2 : goal.check_nodes-requires-clause-s_value_2
check_nodes-requires-clause-s_value_2 c = search (said, rules)

pub check_nodes-requires-clause-s_value_3 : goal.check_nodes-requires-clause-s_value_3
check_nodes-requires-clause-s_value_3 c = search (each, said, rules)

pub returns-then-not-check_nodes : goal.returns-then-not-check_nodes
returns-then-not-check_nodes c = search (refused, nodes-bad, said, denied, rules)

pub contents_of-requires : goal.contents_of-requires
contents_of-requires c = search (said, rules)

pub returns : goal.returns
returns c = search (passes, all_pass, said, rules)
