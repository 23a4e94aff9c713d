-- The words of a node from the j-th on are 0
use Rattle.std.proofs.Common.{◌∙◌, rules, tests, arith, refl, eqb, ◌-◌}
use Rattle.std.proofs.lemmas.Iterator.{YieldsList-from_range}
use Rattle.std.proofs.lemmas.Iterator.Search.{all_from_yields_List}
use Rattle.meaning.specs.Case.{node_word}
use Rattle.meaning.specs.Check.{zeros_from}
use Rattle.stringcheck.specs.Ranges.{all-from}
use Rattle.nodecheck.proofs.zeros_from.Goals as goal

pub returns : goal.returns
unfolding zeros_from
returns c =
    let e = all_from_yields_List (λ i. eqb (node_word c.args.s.now c.args.n i) 0) _ _ c.all.result c.all.ensures.ran (YieldsList-from_range c.args.j 8 (8 - c.args.j) refl (omega arith)) (λ x b q k. search (rules, tests)) in
    e ∙ all-from _ _ _
