use Rattle.std.proofs.Common.{rules}
use Rattle.jsonpieces.proofs.Points.{point-put}
use Rattle.jsonevents.proofs.points.put_point.Goals as goal

pub returns : goal.returns
returns c = search (point-put, rules)
