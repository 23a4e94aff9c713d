use Rattle.std.proofs.Common.{rules}
use Rattle.jsonexport.specs.Laws.{added_is}
use Rattle.jsonexport.proofs.added.Goals as goal

pub returns : goal.returns
returns c = search (added_is, rules)
