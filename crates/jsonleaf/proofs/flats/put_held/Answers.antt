use Rattle.std.proofs.Common.{rules}
use Rattle.std.proofs.Common.{rules}
use Rattle.jsonadds.proofs.Cycle.{value-put-as}
use Rattle.jsonleaf.proofs.flats.put_held.Goals as goal

pub returns : goal.returns
returns c = search (value-put-as, rules)
