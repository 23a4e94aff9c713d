use Rattle.std.proofs.Common.{rules}
use Rattle.marking.proofs.Tables.{kept_at, kept-between}
use Rattle.marking.proofs.keep.Goals as goal

pub returns-then-i-eq0 : goal.returns-then-i-eq0
returns-then-i-eq0 c = search (kept_at, rules)

pub returns-else-i-eq0 : goal.returns-else-i-eq0
returns-else-i-eq0 c = search (kept-between, rules)
