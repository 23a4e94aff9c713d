-- A meter that starts, as the definition has it
use Rattle.std.proofs.Common.{rules}
use Rattle.meaning.specs.Walk.{started}
use Rattle.rows.proofs.meters.started.Goals as goal

pub returns : goal.returns
unfolding started
returns c = search rules
