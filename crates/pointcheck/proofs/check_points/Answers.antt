-- Every point passes
use Rattle.std.proofs.Common.{◌∙◌, rules, tests, ap, arith, refl, ℕ}
use Rattle.std.proofs.lemmas.Iterator.{YieldsList-from_range}
use Rattle.std.proofs.lemmas.Iterator.Search.{all_from_yields_List}
use Rattle.meaning.specs.Check.{point_rule, point_rules}
use Rattle.meaning.specs.Tests.{all_below}
use Rattle.stringcheck.specs.Ranges.{all-range}
use Rattle.pointcheck.proofs.check_points.Goals as goal

pub returns : goal.returns
unfolding point_rules
returns c =
    let e = all_from_yields_List (point_rule c.args.s.now) _ _ c.all.result c.all.ensures.ran (YieldsList-from_range 0 c.point_count.result c.point_count.result refl (omega arith)) (λ x b q k. search (rules, tests)) in
    e ∙ all-range _ _ ∙ ap (λ (n : ℕ). all_below n (point_rule c.args.s.now)) c.point_count.ensures
