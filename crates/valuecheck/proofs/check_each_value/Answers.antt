-- Every value passes its own rule
use Rattle.std.proofs.Common.{◌∙◌, rules, tests, ap, arith, refl, ℕ}
use Rattle.std.proofs.lemmas.Iterator.{YieldsList-from_range}
use Rattle.std.proofs.lemmas.Iterator.Search.{all_from_yields_List}
use Rattle.meaning.specs.Check.{value_rule}
use Rattle.meaning.specs.Tests.{all_below}
use Rattle.stringcheck.specs.Ranges.{all-range}
use Rattle.valuecheck.proofs.check_each_value.Goals as goal

pub returns : goal.returns
returns c =
    let e = all_from_yields_List (value_rule c.args.s.now) _ _ c.all.result c.all.ensures.ran (YieldsList-from_range 0 c.value_count.result c.value_count.result refl (omega arith)) (λ x b q k. search (rules, tests)) in
    e ∙ all-range _ _ ∙ ap (λ (n : ℕ). all_below n (value_rule c.args.s.now)) c.value_count.ensures
