use Rattle.std.proofs.Common.{◌≡◌, ◌∙◌, rules}
use Rattle.meaning.specs.Tests.{◌and◌}
use Rattle.jsonclear.specs.Laws.Values.{checked-mosts, marking_none, marking_runs, marking_kept, marking_more, marking_all}
use Rattle.jsonclear.specs.Laws.Names.{met, unmet}
use Rattle.valuecheck.specs.Laws.{marked-none}
use Rattle.laws.specs.Checked.{checked-bodies}
use Rattle.jsonclear.proofs.clear_values.Goals.{then-own, else-own}
use Rattle.jsonclear.proofs.clear_values.Goals as goal

pub value_count-n-requires : goal.value_count-n-requires
value_count-n-requires c = search (checked-bodies, rules)

pub loop-v-init : goal.loop-v-init
loop-v-init c = search (marking_none, marked-none, rules)

pub parts_marked-parts-requires-clause-s_value : goal.parts_marked-parts-requires-clause-s_value
parts_marked-parts-requires-clause-s_value c = search (checked-bodies, rules)

pub parts_marked-parts-requires-clause-s_value_2 : goal.parts_marked-parts-requires-clause-s_value_2
parts_marked-parts-requires-clause-s_value_2 c = search (checked-mosts, rules)

pub parts_marked-parts-requires-clause-runs : goal.parts_marked-parts-requires-clause-runs
parts_marked-parts-requires-clause-runs c = search (marking_runs, rules)

pub parts_marked-parts-requires-clause-marked : goal.parts_marked-parts-requires-clause-marked
parts_marked-parts-requires-clause-marked c = search (marking_kept, rules)

pub loop-v-preserved : goal.loop-v-preserved
loop-v-preserved c = elim c.if-own.branch [ then-own w ↦ search (marking_more, met, rules) | else-own w ↦ let none : c.if-own.marks ≡ (c.own_clear-own.result and c.parts_marked-parts.result) = unmet _ w.if-own.false (w.marks-is ∙ w.if-own.false) in search (marking_more, rules) ]

pub returns : goal.returns
returns c = search (marking_all, rules)
