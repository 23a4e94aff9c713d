use Rattle.std.proofs.Common.{rules}
use Rattle.jsonexport.specs.Laws.{lengthening_none, lengthening_full, lengthening_there, lengthening_more, lengthening_all}
use Rattle.laws.specs.Checked.{checked-bodies}
use Rattle.jsonexport.proofs.lines_size.Goals as goal

pub point_count-n-requires : goal.point_count-n-requires
point_count-n-requires c = search (checked-bodies, rules)

pub loop-p-init : goal.loop-p-init
loop-p-init c = search (lengthening_none, rules)

pub returns-then-limit-sum : goal.returns-then-limit-sum
returns-then-limit-sum c = search (lengthening_full, rules)

pub line_size-sum-requires-clause-p_bound : goal.line_size-sum-requires-clause-p_bound
line_size-sum-requires-clause-p_bound c = search (lengthening_there, rules)

pub loop-p-preserved : goal.loop-p-preserved
loop-p-preserved c = lengthening_more c.line_size-sum.ensures (search rules) (search rules)

pub returns : goal.returns
returns c = search (lengthening_all, rules)
