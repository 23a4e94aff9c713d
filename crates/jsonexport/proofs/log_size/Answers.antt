use Rattle.std.proofs.Common.{rules}
use Rattle.jsonexport.specs.Laws.{spelled, sized}
use Rattle.jsonexport.proofs.log_size.Goals as goal

pub lines_size-requires-clause-spelled : goal.lines_size-requires-clause-spelled
lines_size-requires-clause-spelled c = search (spelled, rules)

pub lines_size-requires-clause-sized : goal.lines_size-requires-clause-sized
lines_size-requires-clause-sized c = search (sized, rules)
