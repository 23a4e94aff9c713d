use Rattle.std.proofs.Common.{rules}
use Rattle.meaning.specs.Tests.{◌and◌}
use Rattle.jsonclear.specs.Clear.{fields_clear}
use Rattle.jsonclear.proofs.fields_clear.Goals as goal

pub returns-then-records_clear : goal.returns-then-records_clear
unfolding fields_clear ◌and◌
returns-then-records_clear c = search rules

pub returns-else-records_clear : goal.returns-else-records_clear
unfolding fields_clear ◌and◌
returns-else-records_clear c = search rules
