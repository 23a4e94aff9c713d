use Rattle.std.proofs.Common.{rules}
use Rattle.jsonpieces.proofs.Points.{quad_written}
use Rattle.jsonevents.proofs.points.put_quad.Goals as goal

pub returns : goal.returns
returns c = search (quad_written, rules)
