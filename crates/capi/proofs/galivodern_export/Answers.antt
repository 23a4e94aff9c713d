use Rattle.std.proofs.Common.{rules}
use Rattle.capi.proofs.Logs.{unexported, export_told}
use Rattle.capi.proofs.galivodern_export.Goals as goal

pub returns-then-written-lt-WRITTEN_CELLS : goal.returns-then-written-lt-WRITTEN_CELLS
returns-then-written-lt-WRITTEN_CELLS c = search (unexported, rules)

pub returns : goal.returns
returns c = search (export_told, rules)
