use Rattle.std.proofs.Common.{rules}
use Rattle.jsonpoints.specs.Laws.{lining_none, lining_there, lining_room, lining_more, lining_all}
use Rattle.laws.specs.Checked.{checked-bodies}
use Rattle.jsonpoints.proofs.put_lines.Goals as goal

pub point_count-n-requires : goal.point_count-n-requires
point_count-n-requires c = search (checked-bodies, rules)

pub loop-p-init : goal.loop-p-init
loop-p-init c = search (lining_none, rules)

pub put_line-next-requires-clause-p_bound : goal.put_line-next-requires-clause-p_bound
put_line-next-requires-clause-p_bound c = search (lining_there, rules)

pub put_line-next-requires-clause-p_in_bounds : goal.put_line-next-requires-clause-p_in_bounds
put_line-next-requires-clause-p_in_bounds c = search (lining_room, rules)

pub loop-p-preserved : goal.loop-p-preserved
loop-p-preserved c = search (lining_more, rules)

pub returns : goal.returns
returns c = search (lining_all, rules)
