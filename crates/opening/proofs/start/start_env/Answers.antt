use Rattle.std.proofs.Common.{rules}
use Rattle.laws.specs.Checked.{checked-bodies}
use Rattle.opening.proofs.Starts.{start-wrong-length, reading_none, reading_more, reading_bad, reading_all}
use Rattle.opening.proofs.start.start_env.Goals as goal

pub var_count-v-requires : goal.var_count-v-requires
var_count-v-requires c = search (checked-bodies, rules)

pub returns-then-start-v : goal.returns-then-start-v
returns-then-start-v c = search (start-wrong-length, rules)

pub loop-x-init : goal.loop-x-init
loop-x-init c = search (reading_none, rules)

pub returns-then-not-well_formed : goal.returns-then-not-well_formed
returns-then-not-well_formed c = search (reading_bad, rules)

pub loop-x-preserved : goal.loop-x-preserved
loop-x-preserved c = search (reading_more, rules)

pub returns : goal.returns
returns c = search (reading_all, rules)
