use Rattle.std.proofs.Common.{rules}
use Rattle.jsonadds.proofs.Items.{left-free}
use Rattle.std.proofs.Common.{rules}
use Rattle.jsonleaf.proofs.parts.after_run.Goals as goal

pub returns : goal.returns
returns c = search (left-free, rules)
