use Rattle.std.proofs.Common.{rules}
use Rattle.capi.proofs.Written.{unwritten, write-told}
use Rattle.capi.proofs.galivodern_write.Goals as goal

pub returns-then-written-lt-WRITTEN_CELLS : goal.returns-then-written-lt-WRITTEN_CELLS
returns-then-written-lt-WRITTEN_CELLS c = search (unwritten, rules)

pub returns : goal.returns
returns c = search (write-told, rules)
