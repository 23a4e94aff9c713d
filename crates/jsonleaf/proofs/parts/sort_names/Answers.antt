use Rattle.std.proofs.Common.{rules}
use Rattle.jsonadds.proofs.Sorting.{gather_told}
use Rattle.std.proofs.Common.{rules}
use Rattle.jsonleaf.proofs.parts.sort_names.Goals as goal

pub returns : goal.returns
returns c = search (gather_told, rules)
