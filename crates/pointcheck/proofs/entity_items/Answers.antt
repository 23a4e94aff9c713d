-- Every item of a run of entities passes
use Rattle.std.proofs.Common.{◌∙◌, rules, tests, arith, refl}
use Rattle.std.proofs.lemmas.Iterator.{YieldsList-from_range}
use Rattle.std.proofs.lemmas.Iterator.Search.{all_from_yields_List}
use Rattle.meaning.specs.Check.{entity_item}
use Rattle.stringcheck.specs.Ranges.{all-range}
use Rattle.pointcheck.proofs.entity_items.Goals as goal

pub returns : goal.returns
returns c =
    let e = all_from_yields_List (entity_item c.args.s.now c.args.first) _ _ c.all.result c.all.ensures.ran (YieldsList-from_range 0 c.args.items c.args.items refl (omega arith)) (λ x b q k. search (rules, tests)) in
    e ∙ all-range _ _
