use Rattle.std.proofs.Common.{rules}
use Rattle.jsonpieces.proofs.Points.{heading_written}
use Rattle.jsonevents.proofs.points.put_heading.Goals as goal

pub returns : goal.returns
returns c = search (heading_written, rules)
