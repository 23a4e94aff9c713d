use Rattle.std.proofs.Common.{rules}
use Rattle.telling.proofs.Said.{refused_as}
use Rattle.telling.proofs.refuse.Goals as goal

pub returns : goal.returns
returns c = search (refused_as, rules)
