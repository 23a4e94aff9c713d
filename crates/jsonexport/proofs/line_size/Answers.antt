use Rattle.std.proofs.Common.{rules}
use Rattle.jsonexport.specs.Laws.{line-size}
use Rattle.jsonexport.proofs.line_size.Goals as goal

pub returns : goal.returns
returns c = search (line-size, rules)
