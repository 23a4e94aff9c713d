use Rattle.std.proofs.Common.{rules}
use Rattle.jsonsizes.specs.Laws.Leaves.{measuring_none, measuring_more, measuring_all}
use Rattle.jsonsizes.proofs.escaped_size.Goals as goal

pub loop-c-init : goal.loop-c-init
loop-c-init c = search (measuring_none, rules)

pub loop-c-preserved : goal.loop-c-preserved
loop-c-preserved c = search (measuring_more, rules)

pub returns : goal.returns
returns c = search (measuring_all, rules)
