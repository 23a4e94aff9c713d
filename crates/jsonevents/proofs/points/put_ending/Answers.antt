use Rattle.std.proofs.Common.{rules}
use Rattle.jsonpieces.proofs.Points.{ending-written}
use Rattle.jsonevents.proofs.points.put_ending.Goals as goal

pub returns : goal.returns
returns c = search (ending-written, rules)
