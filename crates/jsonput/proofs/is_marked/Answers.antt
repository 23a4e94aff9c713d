use Rattle.std.proofs.Common.{rules}
use Rattle.meaning.specs.Tests.{◌or◌}
use Rattle.jsonput.proofs.is_marked.Goals as goal

pub returns-then-c-eq34 : goal.returns-then-c-eq34
unfolding ◌or◌
returns-then-c-eq34 c = search rules

pub returns-else-c-eq34 : goal.returns-else-c-eq34
unfolding ◌or◌
returns-else-c-eq34 c = search rules
