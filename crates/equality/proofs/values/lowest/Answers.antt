use Rattle.std.proofs.Common.{rules}
use Rattle.equality.proofs.Joining.{lead_start, lead_next, lead_more}
use Rattle.equality.proofs.values.lowest.Goals as goal

pub loop-d-init : goal.loop-d-init
loop-d-init c = search (lead_start, rules)

pub lead-requires : goal.lead-requires
lead-requires c = search (lead_next, rules)

pub loop-d-preserved : goal.loop-d-preserved
loop-d-preserved c = search (lead_more, rules)
