use Rattle.std.proofs.Common.{◌∙◌, rules, tests, ap, arith, refl, ℕ}
use Rattle.std.proofs.lemmas.Iterator.{YieldsList-from_range}
use Rattle.std.proofs.lemmas.Iterator.Search.{all_from_yields_List}
use Rattle.meaning.specs.Check.{utf8_rule}
use Rattle.meaning.specs.Tests.{all_below}
use Rattle.stringcheck.specs.Ranges.{all-range}
use Rattle.stringcheck.proofs.check_utf8.Goals as goal

pub returns : goal.returns
unfolding utf8_rule
returns c =
    let e = all_from_yields_List (utf8_rule c.args.s.now) _ _ c.all.result c.all.ensures.ran (YieldsList-from_range 0 c.string_count.result c.string_count.result refl (omega arith)) (λ x b q k. search (rules, tests)) in
    e ∙ all-range _ _ ∙ ap (λ (n : ℕ). all_below n (utf8_rule c.args.s.now)) c.string_count.ensures
