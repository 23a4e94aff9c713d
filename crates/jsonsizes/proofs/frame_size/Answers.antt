use Rattle.std.proofs.Common.{rules}
use Rattle.jsonsizes.specs.Laws.Tables.{frame-none, frame-some}
use Rattle.jsonsizes.proofs.frame_size.Goals as goal

pub returns-then-items-eq0 : goal.returns-then-items-eq0
returns-then-items-eq0 c = search (frame-none, rules)

pub returns-else-items-eq0 : goal.returns-else-items-eq0
returns-else-items-eq0 c = search (frame-some, rules)
