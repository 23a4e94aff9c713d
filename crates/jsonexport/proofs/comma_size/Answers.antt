use Rattle.std.proofs.Common.{rules}
use Rattle.jsonexport.specs.Laws.{comma-none, comma-some}
use Rattle.jsonexport.proofs.comma_size.Goals as goal

pub returns-then-i-eq0 : goal.returns-then-i-eq0
returns-then-i-eq0 c = (search (comma-none, rules), search rules)

pub returns-else-i-eq0 : goal.returns-else-i-eq0
returns-else-i-eq0 c = (search (comma-some, rules), search rules)
