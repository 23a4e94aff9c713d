use Rattle.joining.proofs.Rules.{floor_some}
use Rattle.std.proofs.Common.{rules}
use Rattle.joining.proofs.floor_at.Goals as goal

pub returns-else-q-eq0 : goal.returns-else-q-eq0
returns-else-q-eq0 c = search (floor_some, rules)
