-- Every node passes
use Rattle.std.proofs.Common.{◌∙◌, rules, tests, ap, arith, refl, ℕ}
use Rattle.std.proofs.lemmas.Iterator.{YieldsList-from_range}
use Rattle.std.proofs.lemmas.Iterator.Search.{all_from_yields_List}
use Rattle.meaning.specs.Check.{node_rule}
use Rattle.meaning.specs.Tests.{all_below}
use Rattle.stringcheck.specs.Ranges.{all-range}
use Rattle.nodecheck.proofs.check_each_node.Goals as goal

pub returns : goal.returns
returns c =
    let e = all_from_yields_List (node_rule c.args.s.now) _ _ c.all.result c.all.ensures.ran (YieldsList-from_range 0 c.node_count.result c.node_count.result refl (omega arith)) (λ x b q k. search (rules, tests)) in
    e ∙ all-range _ _ ∙ ap (λ (n : ℕ). all_below n (node_rule c.args.s.now)) c.node_count.ensures
