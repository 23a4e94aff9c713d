use Rattle.std.proofs.Common.{rules}
use Rattle.finish.proofs.Parts.{index-few, tabling_none, tabling_more, tabling_all}
use Rattle.finish.proofs.put_table.Goals as goal

pub loop-i-init : goal.loop-i-init
loop-i-init c = search (tabling_none, rules)

pub renamed_word-w-requires : goal.renamed_word-w-requires
renamed_word-w-requires c = search (index-few, rules)

pub loop-i-preserved : goal.loop-i-preserved
loop-i-preserved c = search (tabling_more, rules)

pub returns : goal.returns
returns c = search (tabling_all, rules)
